-- What a product header says, in numbers (rules, 10.1), or its refusal with 3, 51 or 52 (rules, 2.3).
-- Assumes nothing.
use Rattle.std.specs.Prelude.{ℕ, List, Result, Ok, Err}
use Rattle.slot.specs.declared.product.Product.{Product}
use Rattle.slot.specs.declared.refused.Refusal.{Refusal}
use Rattle.slot.specs.Product.{product_at}
use Rattle.slot.specs.Slot.{refusal_number}
use Rattle.inspect.specs.declared.product_header.ProductRead.{ProductRead}

abbrev pub product_numbers : Result Product Refusal → ProductRead
product_numbers (Ok product) = record { number = 0; first = product.first; second = product.second }
product_numbers (Err refusal) = record { number = refusal_number refusal; first = 0; second = 0 }

abbrev pub read_product : (flash : List ℕ) (offset : ℕ) → ProductRead
read_product flash offset = product_numbers (product_at flash offset)
