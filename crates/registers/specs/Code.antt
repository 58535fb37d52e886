-- What the code and the proofs are cut by: no promise under the roof needs a definition of this file.
use Rattle.std.specs.Prelude.{◌≡◌, List, ◌↔◌, ℕ, ◌<◌, eqb, length, if◌then◌else◌, Option, Some, None}
use Rattle.places.specs.Places.{size, components, link_of}
use Rattle.vault.specs.declared.Password.{Password}
use Rattle.registers.specs.Registers.{password_in, apart, number_taken}

-- 01, Events and time, 1: an image of 256 bytes is taken; any other is refused.
unfoldable pub taken_of : List ℕ → Option Password
taken_of image = if eqb (length image) size then Some (password_in image) else None

-- The registers once an image is offered: those of the image, or, refused, every byte as it was (decision 54).
unfoldable pub after_taking : List ℕ → List ℕ → List ℕ
after_taking image all = if eqb (length image) size then apart image else all

-- What taking an image promises: its answer, and every byte of the registers.
pub record Took (image before : List ℕ) (answer : Option Password) (after : List ℕ) : Type 0 where
  pub answered : answer ≡ taken_of image
  pub registers : after ≡ after_taking image before

-- 01, Answer numbers, heading of the table and row 1: an image is refused if and only if it has another size than 256.
pub record TakenExactly : Type 0 where
  pub taken : (image : List ℕ) → (number_taken (taken_of image) ≡ 0) ↔ (length image ≡ size)
  pub refused : (image : List ℕ) → (number_taken (taken_of image) ≡ 1) ↔ (length image ≡ size → ⊥)

-- Component i has this link, and none before it does.
abbrev pub FirstWith : List ℕ → ℕ → ℕ → Type 0
FirstWith all link i = (i < components) × ((link_of all i ≡ link) × ((j : ℕ) → j < i → link_of all j ≡ link → ⊥))

-- None of the sixteen components has this link.
abbrev pub NoneWith : List ℕ → ℕ → Type 0
NoneWith all link = (j : ℕ) → j < components → link_of all j ≡ link → ⊥
