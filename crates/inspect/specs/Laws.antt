-- What is read agrees with what is judged (rules, 9.3).
-- Assumes nothing.
use Rattle.std.specs.Prelude.{ℕ, ◌≡◌, List, true, Some}
use Rattle.image.specs.Valid.{is_valid, image_at}
use Rattle.inspect.specs.Image.{read_image}

-- of a valid image, the id and size that are read are that image's
abbrev pub SameImage : (memory : List ℕ) (offset : ℕ) → Type 0
SameImage memory offset =
    let read = read_image memory offset in
    is_valid memory offset ≡ true → image_at memory offset ≡ Some (record { id = read.id; size = read.size })
