-- How one room's record changes when it lends, passes, settles, or takes a message, and what it sends.
use Rattle.std.specs.Prelude.{ℕ, ◌+◌, Bool, true, false, ◌||◌, ◌&&◌, Option, Some, None, is_none, ltb, leb, eqb, if◌then◌else◌}
use Rattle.modes.specs.Codes.{none}
use Rattle.modes.specs.Modes.{is_stronger}
use Rattle.room.specs.declared.Room.{Room}
use Rattle.room.specs.declared.Changed.{Changed}
use Rattle.room.specs.declared.Lent.{Lent}
use Rattle.room.specs.declared.Passed.{Passed}
use Rattle.room.specs.declared.Reduce.{Reduce}
use Rattle.room.specs.Limits.{last_link}
use Rattle.room.specs.Record.{no_entry, entry_of, entry_at, is_lender, lender_of, lender_in, with_modes, with_token, with_debt, with_counter, set_entry}
use Rattle.room.specs.Owned.{owned}

-- "the counter goes up by 1 and is the new link number"; at the last one it stays, and the step is WORN
unfoldable pub next_link : ℕ → ℕ
next_link k = if ltb k last_link then k + 1 else last_link

-- "needs a link number above 4,294,967,295"
unfoldable pub is_worn : ℕ → Bool
is_worn k = leb last_link k

-- "Lend m to y: the counter goes up by 1 and is the new link number; the entry for y becomes m with it, replacing any old one"
unfoldable pub lent_to : Room → ℕ → ℕ → Room
lent_to r y m = with_counter (set_entry r y (entry_of m (next_link r.counter))) (next_link r.counter)

unfoldable pub lent : Room → ℕ → ℕ → Lent
lent r y m = record { room = lent_to r y m; link = next_link r.counter; worn = is_worn r.counter }

-- "Passing to w: the entry for w is cleared, the counter goes up by 1 .. toward is w"
unfoldable pub left : Room → ℕ → Room
left r w = with_token (with_counter (set_entry r w no_entry) (next_link r.counter)) false w

-- "the owned mode that remains"
unfoldable pub remaining : Room → ℕ → ℕ
remaining r w = owned (set_entry r w no_entry)

-- "if what remains isn't none, lender w, credit what remains, that link number"
unfoldable pub passed_to : Room → ℕ → Room
passed_to r w =
    if eqb (remaining r w) none then left r w
    else with_debt (left r w) (lender_in w) (remaining r w) (next_link r.counter)

unfoldable pub passed : Room → ℕ → Passed
passed r w =
    record { room = passed_to r w; rest = remaining r w; link = next_link r.counter; worn = is_worn r.counter }

-- "credit becomes owned, and at none the lender is nobody"
unfoldable pub credited : Room → ℕ → Room
credited r m = if eqb m none then with_debt r None m 0 else with_debt r r.lender m r.link

-- a REDUCE to the lender under the record's link number
abbrev pub reduce_to : Room → ℕ → Reduce
reduce_to r m = record { to = lender_of r; link = r.link; mode = m }

-- "Settle (without the token): if owned is weaker than credit, send the lender REDUCE to owned"
unfoldable pub settled : Room → Changed
settled r =
    if is_stronger r.credit (owned r)
    then record { room = credited r (owned r); send = Some (reduce_to r (owned r)) }
    else record { room = r; send = None }

-- "if b has a lender other than a, it sends that lender REDUCE to none under the old link"
unfoldable pub leaving : Room → ℕ → Option Reduce
leaving r a =
    if is_none r.lender || is_lender r.lender a then None
    else Some (reduce_to r none)

-- "GRANT: .. Then lender a, the new link number, credit and held the mode, wanted none."
unfoldable pub granted : Room → ℕ → ℕ → ℕ → Changed
granted r a m l = record { room = with_debt (with_modes r m none) (lender_in a) m l; send = leaving r a }

-- "its counter is the larger of its own and the link number"
unfoldable pub lifted : ℕ → ℕ → ℕ
lifted k l = if ltb k l then l else k

-- "TOKEN: .. then no lender, credit none, toward itself, held the mode, wanted none; its entry for a is the remaining mode
-- with the link number; its counter is the larger of its own and the link number"
unfoldable pub tokened_by : Room → ℕ → ℕ → ℕ → ℕ → ℕ → Room
tokened_by r me a m rest l =
    with_counter (with_debt (with_token (with_modes (set_entry r a (entry_of rest l)) m none) true me) None none 0) (lifted r.counter l)

unfoldable pub tokened : Room → ℕ → ℕ → ℕ → ℕ → ℕ → Changed
tokened r me a m rest l = record { room = tokened_by r me a m rest l; send = leaving r a }

-- "REDUCE: if b's entry for a has this link number and a stronger mode than the new one, it takes the new mode; else the message is dropped."
unfoldable pub reduced : Room → ℕ → ℕ → ℕ → Room
reduced r a l m =
    if eqb (entry_at r a).link l && is_stronger (entry_at r a).mode m then set_entry r a (entry_of m l)
    else r
