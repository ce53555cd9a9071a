-- What `==` to the blank record says.
use mathlib.Core.Path.{◌≡◌, refl}
use mathlib.Core.Bool.{Bool, true, false, not, ◌&&◌, beq, and_assoc}
use lib.ListN.{length, replicate}
use lib.Dec.{eqb}
use lib.Pointwise.{pointwise}
use Rattle.std.specs.Prelude.{ℕ, Option, Some, None, is_none}
use Rattle.std.specs.Option.{option_eq}
use Rattle.room.specs.declared.Room.{Room}
use Rattle.room.specs.Limits.{room_limit}
use Rattle.room.specs.Record.{no_entry}
use Rattle.table.specs.Formed.{is_blank_entry, is_blank_room}
use Rattle.records.proofs.Lists.{all-alike}

beq-false : (b : Bool) → beq b false ≡ not b
beq-false true = refl
beq-false false = refl

none-equal : (o : Option ℕ) → option_eq eqb o None ≡ is_none o
none-equal None = refl
none-equal (Some l) = refl

pub blank-is : (r : Room) → length r.entries ≡ room_limit
    → (eqb r.held 0 && (eqb r.wanted 0 && (beq r.token false && (eqb r.toward 0 && (option_eq eqb r.lender None && (eqb r.credit 0 && (eqb r.link 0 && (eqb r.counter 0
    && pointwise (λ x y. eqb x.mode y.mode && eqb x.link y.link) r.entries (replicate room_limit no_entry)))))))))
    ≡ is_blank_room r
unfolding is_blank_room is_blank_entry
blank-is r h =
    rw (all-alike no_entry (λ x y. eqb x.mode y.mode && eqb x.link y.link) no_entry r.entries room_limit h)
    (simp (and_assoc, beq-false, none-equal))
