-- A room's record: its parts, and the record with one part changed.
use Rattle.std.specs.Prelude.{ℕ, Bool, false, Option, Some, None, unwrap_or, [], get_or, set, replicate, eqb, if◌then◌else◌}
use Rattle.modes.specs.Codes.{none}
use Rattle.room.specs.declared.Room.{Room}
use Rattle.room.specs.declared.Entry.{Entry}
use Rattle.room.specs.Limits.{room_limit, nobody}

-- "mode none meaning no entry"; its link number is zero
abbrev pub no_entry : Entry
no_entry = record { mode = none; link = 0 }

-- "Wherever below an entry becomes none .. the link number there becomes zero."
unfoldable pub entry_of : ℕ → ℕ → Entry
entry_of m l = if eqb m none then no_entry else record { mode = m; link = l }

-- "for each room an entry of mode and link number"
abbrev pub entry_at : Room → ℕ → Entry
entry_at r c = get_or r.entries c no_entry

-- "lender or nobody": whether room c is the lender
unfoldable pub is_lender : Option ℕ → ℕ → Bool
is_lender None c = false
is_lender (Some l) c = eqb l c

-- the lender's number; where there is none, one that no room has
abbrev pub lender_of : Room → ℕ
lender_of r = unwrap_or r.lender nobody

-- the lender that a number names: none, where it is the number of nobody
unfoldable pub lender_in : ℕ → Option ℕ
lender_in a = if eqb a nobody then None else Some a

-- all none or zero
abbrev pub blank_room : Room
blank_room =
    record {
      held = none;
      wanted = none;
      token = false;
      toward = 0;
      lender = None;
      credit = none;
      link = 0;
      counter = 0;
      entries = replicate room_limit no_entry;
    }

-- what the language reads past the end of an array of rooms: numbers 0, arrays empty
abbrev pub no_room : Room
no_room =
    record { held = 0; wanted = 0; token = false; toward = 0; lender = None; credit = 0; link = 0; counter = 0; entries = [] }

-- the record with another held and another wanted mode
abbrev pub with_modes : Room → ℕ → ℕ → Room
with_modes r h w =
    record {
      held = h;
      wanted = w;
      token = r.token;
      toward = r.toward;
      lender = r.lender;
      credit = r.credit;
      link = r.link;
      counter = r.counter;
      entries = r.entries;
    }

-- the record with or without the token, and another way to it
abbrev pub with_token : Room → Bool → ℕ → Room
with_token r b t =
    record {
      held = r.held;
      wanted = r.wanted;
      token = b;
      toward = t;
      lender = r.lender;
      credit = r.credit;
      link = r.link;
      counter = r.counter;
      entries = r.entries;
    }

-- the record with another lender, credit and link number
abbrev pub with_debt : Room → Option ℕ → ℕ → ℕ → Room
with_debt r l c k =
    record {
      held = r.held;
      wanted = r.wanted;
      token = r.token;
      toward = r.toward;
      lender = l;
      credit = c;
      link = k;
      counter = r.counter;
      entries = r.entries;
    }

-- the record with another counter
abbrev pub with_counter : Room → ℕ → Room
with_counter r k =
    record {
      held = r.held;
      wanted = r.wanted;
      token = r.token;
      toward = r.toward;
      lender = r.lender;
      credit = r.credit;
      link = r.link;
      counter = k;
      entries = r.entries;
    }

-- the record with another entry for room c
abbrev pub set_entry : Room → ℕ → Entry → Room
set_entry r c e =
    record {
      held = r.held;
      wanted = r.wanted;
      token = r.token;
      toward = r.toward;
      lender = r.lender;
      credit = r.credit;
      link = r.link;
      counter = r.counter;
      entries = set r.entries c e;
    }
