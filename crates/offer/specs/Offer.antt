-- An offer of two image files (rules, 11.1 and 11.2), or its refusal with 62, 63 or 61 (rules, 2.3).
-- Assumes nothing.
use Rattle.std.specs.Prelude.{ℕ, List, [], Option, Some, None, Result, Ok, Err, cond, eqb}
use Rattle.std.specs.declared.cmp.Ordering.{Ordering}
use Rattle.std.specs.declared.cmp.Ordering.TheVariants.{Less, Equal, Greater}
use Rattle.std.specs.Borrow.{Bor}
use Rattle.wire.specs.Part.{IsPart}
use Rattle.version.specs.Rank.{malformed_text}
use Rattle.version.specs.Order.{compared_fields}
use Rattle.image.specs.declared.Image.{Image}
use Rattle.image.specs.Header.{version_at, header_length, code_at}
use Rattle.image.specs.Valid.{image_at}
use Rattle.offer.specs.declared.Refusal.{Refusal}
use Rattle.offer.specs.declared.Refusal.TheVariants.{BadInstalled, BadCandidate, Malformed}
use Rattle.offer.specs.declared.File.{File}
use Rattle.offer.specs.declared.File.TheVariants.{Installed, Candidate}
use Rattle.offer.specs.declared.Winner.{Winner}
use Rattle.offer.specs.declared.Offered.{Offered}

-- the numbers given where the installed image, or the candidate, is not valid
abbrev pub bad_installed : ℕ
bad_installed = 62

abbrev pub bad_candidate : ℕ
bad_candidate = 63

abbrev pub refusal_number : Refusal → ℕ
refusal_number BadInstalled = bad_installed
refusal_number BadCandidate = bad_candidate
refusal_number Malformed = malformed_text

-- the numbers of the files
abbrev pub installed_file : ℕ
installed_file = 1

abbrev pub candidate_file : ℕ
candidate_file = 2

abbrev pub file_number : File → ℕ
file_number Installed = installed_file
file_number Candidate = candidate_file

abbrev pub refused : (number : ℕ) → Offered
refused number = record { number = number; file = 0; place = 0; size = 0 }

-- a file wins; its code begins after the header
abbrev pub wins : (file size : ℕ) → Offered
wins file size = record { number = 0; file = file; place = header_length; size = size }

-- the winner, or why there is none
abbrev pub offered : Result Winner Refusal → Offered
offered (Ok winner) = wins (file_number winner.file) winner.size
offered (Err refusal) = refused (refusal_number refusal)

-- by both images, and by how the installed version compares with the candidate's: the higher version wins, the installed one if equal
abbrev pub judged : (installed candidate : Option Image) → Option Ordering → Offered
judged None candidate versions = refused bad_installed
judged (Some image) None versions = refused bad_candidate
judged (Some image) (Some other) None = refused malformed_text
judged (Some image) (Some other) (Some Less) = wins candidate_file other.size
judged (Some image) (Some other) (Some Equal) = wins installed_file image.size
judged (Some image) (Some other) (Some Greater) = wins installed_file image.size

unfoldable pub offer_of : (installed candidate : List ℕ) → Offered
offer_of installed candidate =
    judged (image_at installed 0) (image_at candidate 0) (compared_fields (version_at installed 0) (version_at candidate 0))

-- the file that an offer names; the installed one where it names none
abbrev pub file_of : {A : Type 0} → Offered → (installed candidate : A) → A
file_of offered installed candidate = cond (eqb offered.file candidate_file) candidate installed

-- what an offer hands back: the part that it names of the file that it names; refused, an empty part of the installed file
abbrev pub HandsBack : (installed candidate part : Bor (List ℕ)) → Type 0
HandsBack installed candidate part =
    let offered = offer_of installed.now candidate.now in
    IsPart part (file_of offered installed candidate) offered.place offered.size

-- the code of whichever file wins, and nothing where neither does
unfoldable pub offer_code : (installed candidate : List ℕ) → List ℕ
offer_code installed candidate =
    cond (eqb (offer_of installed candidate).file installed_file) (code_at installed 0)
    (cond (eqb (offer_of installed candidate).file candidate_file) (code_at candidate 0)
    [])
