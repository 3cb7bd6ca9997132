-- An image sheet (rules, 12.1 and 12.2), or its refusal with 67 (rules, 2.3).
-- Assumes nothing.
use Rattle.std.specs.Prelude.{ℕ, List, Bool, Option, Some, None, Result, Ok, Err, cond, length}
use Rattle.std.specs.Result.{result_unwrap_or}
use Rattle.std.specs.Borrow.{Bor}
use Rattle.wire.specs.Part.{IsPart}
use Rattle.wire.specs.Range.{lies_in}
use Rattle.image.specs.declared.Image.{Image}
use Rattle.image.specs.Header.{header_length}
use Rattle.image.specs.Valid.{image_at}
use Rattle.sheet.specs.declared.Code.{Code}
use Rattle.sheet.specs.declared.Refusal.{Refusal}
use Rattle.sheet.specs.declared.Refusal.TheVariants.{BadFile}

-- the number given where the file isn't a valid image
abbrev pub bad_file : ℕ
bad_file = 67

abbrev pub refusal_number : Refusal → ℕ
refusal_number BadFile = bad_file

-- the place of the code, and its length
abbrev pub placed : Option Image → Result Code Refusal
placed (Some image) = Ok (record { place = header_length; size = image.size })
placed None = Err BadFile

unfoldable pub place_of : (file : List ℕ) → Result Code Refusal
place_of file = placed (image_at file 0)

-- the same, and zeros where the file is refused
abbrev pub code_in : (file : List ℕ) → Code
code_in file = result_unwrap_or (place_of file) (record { place = 0; size = 0 })

-- the place that a file's sheet holds
unfoldable pub code_place : (file : List ℕ) → ℕ
code_place file = (code_in file).place

-- as many bytes as the file has code lie in the file from a place on
unfoldable pub lies_from : (file : List ℕ) (place : ℕ) → Bool
lies_from file place = lies_in place (code_in file).size 0 (length file)

-- what a sheet shows that holds a file and any place: as many bytes from there on as the file has code, or an empty part where these do
-- not lie in the file
abbrev pub Shows : (file : Bor (List ℕ)) (place : ℕ) (part : Bor (List ℕ)) → Type 0
Shows file place part =
    IsPart part file (cond (lies_from file.now place) place 0) (cond (lies_from file.now place) (code_in file.now).size 0)
