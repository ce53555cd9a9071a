-- "It reads lines .. : `n 3`, `a 1 R`, `u 1`, `h 1`, `d 0 1` (fresh, ask, upgrade, hand back, deliver; one space; numbers of one or two
-- digits; a mode is one of IR, R, U, IW, W)." A line is the list of its bytes before the line feed.
use Rattle.std.specs.Prelude.{ℕ, ◌+◌, ◌-◌, ◌*◌, List, [], ◌∷◌, Option, None, Some, ltb, eqb, if◌then◌else◌}
use Rattle.std.specs.Option.{option_map, option_and_then}
use Rattle.modes.specs.Codes.{IR, R, U, IW, W}
use Rattle.rules.specs.declared.Event.{Event}
use Rattle.rules.specs.Events.{ASK, UPGRADE, HANDBACK, DELIVER}
use Rattle.reading.specs.declared.Command.{Command}
use Rattle.reading.specs.declared.Command.TheVariants as command
use Rattle.base.specs.Letters.{space, zero-digit, letter-n, letter-a, letter-u, letter-h, letter-d, letter-I, letter-R, letter-U, letter-W}

unfoldable pub digit_of : ℕ → Option ℕ
digit_of b = if ltb b zero-digit then None else (if ltb (zero-digit + 9) b then None else Some (b - zero-digit))

-- "numbers of one or two digits"
unfoldable pub number_of : List ℕ → Option ℕ
number_of [] = None
number_of (d ∷ []) = digit_of d
number_of (d ∷ e ∷ []) = option_and_then (λ tens. option_map (λ ones. 10 * tens + ones) (digit_of e)) (digit_of d)
number_of (d ∷ e ∷ f ∷ more) = None

-- "a mode is one of IR, R, U, IW, W"
unfoldable pub short_mode : ℕ → Option ℕ
short_mode a = if eqb a letter-R then Some R else (if eqb a letter-U then Some U else (if eqb a letter-W then Some W else None))

unfoldable pub intent_of : ℕ → Option ℕ
intent_of b = if eqb b letter-R then Some IR else (if eqb b letter-W then Some IW else None)

unfoldable pub mode_of : List ℕ → Option ℕ
mode_of [] = None
mode_of (a ∷ []) = short_mode a
mode_of (a ∷ b ∷ []) = if eqb a letter-I then intent_of b else None
mode_of (a ∷ b ∷ c ∷ more) = None

-- "one space": the text before the first space, and behind it
unfoldable pub before : List ℕ → List ℕ
before [] = []
before (b ∷ bs) = if eqb b space then [] else b ∷ before bs

unfoldable pub behind : List ℕ → List ℕ
behind [] = []
behind (b ∷ bs) = if eqb b space then bs else behind bs

-- `n 3`
unfoldable pub fresh_command : Option ℕ → Option Command
fresh_command n = option_map (λ n. command.Fresh n) n

abbrev pub event : ℕ → ℕ → ℕ → ℕ → Event
event kind room other mode = record { kind = kind; room = room; other = other; mode = mode }

-- `u 1`, `h 1`
unfoldable pub own_command : ℕ → Option ℕ → Option Command
own_command kind x = option_map (λ x. command.Make (event kind x 0 0)) x

-- `a 1 R`
unfoldable pub ask_command : Option ℕ → Option ℕ → Option Command
ask_command x m = option_and_then (λ x. option_map (λ m. command.Make (event ASK x 0 m)) m) x

-- `d 0 1`
unfoldable pub deliver_command : Option ℕ → Option ℕ → Option Command
deliver_command a b = option_and_then (λ a. option_map (λ b. command.Make (event DELIVER a b 0)) b) a

-- what follows the letter and the space
unfoldable pub order : ℕ → List ℕ → Option Command
order letter rest =
    if eqb letter letter-n then fresh_command (number_of rest)
    else (if eqb letter letter-u then own_command UPGRADE (number_of rest)
    else (if eqb letter letter-h then own_command HANDBACK (number_of rest)
    else (if eqb letter letter-a then ask_command (number_of (before rest)) (mode_of (behind rest))
    else (if eqb letter letter-d then deliver_command (number_of (before rest)) (number_of (behind rest))
    else None))))

unfoldable pub command_of : List ℕ → Option Command
command_of [] = None
command_of (letter ∷ []) = None
command_of (letter ∷ s ∷ rest) = if eqb s space then order letter rest else None
