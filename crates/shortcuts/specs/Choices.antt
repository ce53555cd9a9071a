-- The five places at which document 01's shortcuts leave the rules, as choices: what the rules choose, and each shortcut.
use Rattle.std.specs.Prelude.{ℕ, Bool, true, eqb}
use Rattle.room.specs.declared.Room.{Room}
use Rattle.room.specs.declared.Entry.{Entry}
use Rattle.room.specs.Record.{no_entry, set_entry}
use Rattle.room.specs.Owned.{owned}
use Rattle.room.specs.Rules.{lifted}

pub record Choices : Type 0 where
  -- whether a REDUCE under this link number is about this entry
  pub matches : Entry → ℕ → Bool
  -- whether a room without the token may lend to the origin of a REQUEST, by what it says: that the origin owned nothing, or not
  pub may_lend : Bool → Bool
  -- the mode of a room that a request is tested against
  pub tested : Room → ℕ
  -- the record of a room that passes the token to w, as far as its entries go
  pub leaves : Room → ℕ → Room
  -- the counter of a room that takes a TOKEN, by its counter before and the link number
  pub counts : ℕ → ℕ → ℕ

abbrev choose : (Entry → ℕ → Bool) → (Bool → Bool) → (Room → ℕ) → (Room → ℕ → Room) → (ℕ → ℕ → ℕ) → Choices
choose a b c d e = record { matches = a; may_lend = b; tested = c; leaves = d; counts = e }

-- what the rules choose
abbrev pub by_link : Entry → ℕ → Bool
by_link e l = eqb e.link l

abbrev pub only_idle : Bool → Bool
only_idle idle = idle

abbrev pub cleared : Room → ℕ → Room
cleared r w = set_entry r w no_entry

abbrev pub right : Choices
right = choose by_link only_idle owned cleared lifted

-- "Matching a REDUCE by room alone"
abbrev pub by_room : Entry → ℕ → Bool
by_room e l = true

-- "Letting a room without the token lend to one that itself has entries": who waits holds nothing, so what it owns it has lent
abbrev pub anyone : Bool → Bool
anyone idle = true

-- "Testing a request against the held mode and not the owned one"
abbrev pub held_only : Room → ℕ
held_only r = r.held

-- "Leaving the receiver's entry when the token goes"
abbrev pub uncleared : Room → ℕ → Room
uncleared r w = r

-- "Choosing the link number of a TOKEN without lifting the receiver's counter"
abbrev pub unlifted : ℕ → ℕ → ℕ
unlifted k l = k

-- the rules with one shortcut each, in document 01's order
abbrev pub matched_by_room : Choices
matched_by_room = choose by_room only_idle owned cleared lifted

abbrev pub lent_to_anyone : Choices
lent_to_anyone = choose by_link anyone owned cleared lifted

abbrev pub tested_by_held : Choices
tested_by_held = choose by_link only_idle held_only cleared lifted

abbrev pub entry_left : Choices
entry_left = choose by_link only_idle owned uncleared lifted

abbrev pub counter_unlifted : Choices
counter_unlifted = choose by_link only_idle owned cleared unlifted
