-- What the code and the proofs are cut by: no promise under the roof needs a definition of this file.
use Rattle.std.specs.Prelude.{ℕ}
use Rattle.answers.specs.declared.Refusal.{Refusal}
use Rattle.answers.specs.declared.Refusal.TheVariants.{Image, Room, Contact}

-- 01, Answer numbers, rows 1 to 3: an image of another size; too small a buffer; no such contact.
abbrev pub number_of_refusal : Refusal → ℕ
number_of_refusal Image = 1
number_of_refusal Room = 2
number_of_refusal Contact = 3
