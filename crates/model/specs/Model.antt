-- What a switch of this model is made of. Every number that another model would change stands here, and nowhere else.
use Rattle.std.specs.Prelude.{Bool, ℕ, ◌+◌, ◌*◌, ◌%◌, ltb, eqb, if◌then◌else◌}
use Rattle.paddle.specs.declared.Contact.{Contact}
use Rattle.paddle.specs.declared.Contact.TheVariants.{Local, Slave}

-- 01, Registers, 3: two paddles; number 0 is the top, 1 the bottom.
abbrev pub paddle_count : ℕ
paddle_count = 2

-- 01, Events and time, 2 and 01, Answer numbers, row 3: four contacts, numbered from 0.
abbrev pub contact_count : ℕ
contact_count = 4

-- 01, Events and time, 2: contacts 0 and 2 are the top paddle's, 1 and 3 the bottom's.
unfoldable pub paddle_of : ℕ → ℕ
paddle_of contact = contact % 2

-- 01, Events and time, 2: contacts 0 and 1 are local, 2 and 3 slave.
unfoldable pub kind_of : ℕ → Contact
kind_of contact = if ltb contact 2 then Local else Slave

-- 01, Paddles, 6: an even paddle is a top one.
unfoldable pub is_top : ℕ → Bool
is_top paddle = eqb (paddle % 2) 0

-- 01, Paddles, 6 to 8: both paddles drive the load.
unfoldable pub drives : ℕ → Bool
drives paddle = ltb paddle 2

-- 01, Registers, 3: where a paddle's transmit component begins; each has five bytes.
abbrev pub transmit_place : ℕ → ℕ
transmit_place paddle = 0x70 + 5 * (paddle % paddle_count)

-- 01, Registers, 4: where a paddle's two actions begin, each a level with its rate.
abbrev pub action_place : ℕ → ℕ
action_place paddle = 0x7A + 4 * (paddle % paddle_count)

-- 01, Events and time, 5: the bytes of a place of the answer buffer.
abbrev pub place : ℕ
place = 24

-- 01, Events and time, 5: the least buffer of an event, with a place for each packet that it can send: one for each paddle.
abbrev pub room : ℕ
room = paddle_count * place
