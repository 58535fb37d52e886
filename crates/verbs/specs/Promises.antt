-- What is promised of the commands: which numbers they have, and when their arguments suit. m is the message.
use Rattle.std.specs.Prelude.{List, [], ◌∷◌, ◌≡◌, ℕ, ◌+◌, ◌≤◌, ◌<◌, length}
use Rattle.verbs.specs.declared.Verb.{Verb}
use Rattle.verbs.specs.declared.Verb.TheVariants.{Open, Close, Get, Set, Activate, Deactivate, Goto, FadeStart, FadeStop, Blink, Report, Store, Unlisted}
use Rattle.verbs.specs.Verbs.{argument, values}

-- 01, Commands, 1 to 4: the numbers of the twelve commands.
abbrev pub commands : List ℕ
commands = 0x03 ∷ 0x04 ∷ 0x10 ∷ 0x11 ∷ 0x20 ∷ 0x21 ∷ 0x22 ∷ 0x23 ∷ 0x24 ∷ 0x25 ∷ 0x30 ∷ 0x31 ∷ []

-- 01, Answer numbers, row 11, of that list: n is none of it.
abbrev pub NoneOf : List ℕ → ℕ → Type 0
NoneOf [] n = Unit {0}
NoneOf (k ∷ ks) n = (n ≡ k → ⊥) × NoneOf ks n

-- At least and at most so many arguments.
abbrev pub Takes : ℕ → ℕ → List ℕ → Type 0
Takes least most m = (least < length m) × (length m ≤ most + 1)

-- 01, Commands, 3 and 6: 1 to 16 registers, none past 0xFF.
abbrev pub Range : ℕ → ℕ → Type 0
Range first count = (1 ≤ count) × ((count ≤ 16) × (first + count ≤ 256))

-- 01, Answer numbers, row 12, is where this does not hold: the arguments of each command (01, Commands, 2, 3 and 5).
abbrev pub Suits : Verb → List ℕ → Type 0
Suits Open m = Takes 2 2 m
Suits Close m = Takes 0 0 m
Suits Get m = Takes 2 2 m × Range (argument m 1) (argument m 2)
Suits Set m = Range (argument m 1) (values m)
Suits Activate m = Takes 0 0 m
Suits Deactivate m = Takes 0 0 m
Suits Goto m = Takes 1 2 m
Suits FadeStart m = Takes 1 2 m
Suits FadeStop m = Takes 0 0 m
Suits Blink m = Takes 0 1 m
Suits Report m = Takes 0 0 m
Suits Store m = Takes 0 0 m
Suits Unlisted m = ⊥
