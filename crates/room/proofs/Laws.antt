-- A law for each fact that the functions' proofs do not find alone, over plain values.
use mathlib.Core.Path.{◌≡◌, refl, sym, ap}
use mathlib.Core.Bool.{true, false}
use Prim.Native.Nat.{ℕ, ◌+◌, ◌≤◌}
use native.Mathlib.Numerals.{add-one}
use lib.ListN.{length}
use lib.Seq.{set_out}
use borrow.Author.Tests.{lt-ltb, le-ltb, eq-eqb, ne_eqb}
use Rattle.std.proofs.Common.{Option, None, max, arith}
use Rattle.base.specs.Below.{all_below}
use lib.Dec.{eqb, leb}
use Rattle.room.specs.declared.Room.{Room}
use Rattle.room.specs.declared.Entry.{Entry}
use Rattle.room.specs.declared.Reduce.{Reduce}
use Rattle.room.specs.Limits.{last_link, room_limit}
use Rattle.room.specs.Record.{no_entry, entry_of, entry_at, lender_in, with_modes, with_token, with_debt, with_counter, set_entry}
use Rattle.room.specs.Owned.{larger, strongest, owned, has_no_entries}
use Rattle.room.specs.Rules.{next_link, is_worn, lent_to, lent, left, remaining, passed_to, passed, leaving, lifted, tokened_by, tokened}

-- a place past the entries takes none
pub set_past : (r : Room) (c : ℕ) (e : Entry) → length r.entries ≤ c → r ≡ set_entry r c e
set_past r c e h = sym (ap (λ es. record { held = r.held; wanted = r.wanted; token = r.token; toward = r.toward; lender = r.lender; credit = r.credit; link = r.link; counter = r.counter; entries = es }) (set_out r.entries c e h))

-- the loop that takes the strongest entry, turn by turn
pub strongest-none : (r : Room) → r.held ≡ strongest r 0
unfolding strongest
strongest-none r = refl

pub strongest-more : (r : Room) (i b c : ℕ) → b ≡ strongest r i → c ≡ larger b (entry_at r i).mode → c ≡ strongest r (i + 1)
unfolding strongest
strongest-more r i b c p q = rw (add-one, ← p) q

pub owned-strongest : (r : Room) (b : ℕ) → b ≡ strongest r room_limit → b ≡ owned r
unfolding owned
owned-strongest r b e = e

pub no-entries-all : (r : Room) → all_below room_limit (λ j. eqb (entry_at r j).mode 0) ≡ has_no_entries r
unfolding has_no_entries
no-entries-all r = refl

-- what a loan leaves, at the values that the calls give
module _ (r : Room) (y m : ℕ) where
  pub lent_is : (l : ℕ) → l ≡ next_link r.counter → (e : Entry) → e ≡ entry_of m l → (s : Room) → s ≡ set_entry r y e
      → record { room = with_counter s l; link = l; worn = leb last_link r.counter } ≡ lent r y m
  unfolding lent lent_to is_worn
  lent_is l p e q s u = rw (u, q, p)

-- what a pass leaves
module _ (r : Room) (w l : ℕ) (p : l ≡ next_link r.counter) (s : Room) (u : s ≡ set_entry r w no_entry) (o : ℕ) (q : o ≡ owned s) where
  pub passed_owing : (o ≡ 0 → ⊥) → (b : Option ℕ) → b ≡ lender_in w
      → record { room = with_debt (with_token (with_counter s l) false w) b o l; rest = o; link = l; worn = leb last_link r.counter } ≡ passed r w
  unfolding passed passed_to remaining left is_worn
  passed_owing h b v = rw (q, u, p, v) (simp (ne_eqb _ _ (rw (q, u) at h)))

  pub passed_free : o ≡ 0 → record { room = with_token (with_counter s l) false w; rest = o; link = l; worn = leb last_link r.counter } ≡ passed r w
  unfolding passed passed_to remaining left is_worn
  passed_free h = rw (q, u, p) (simp (eq-eqb _ _ (rw (q, u) at h)))

-- the larger of two counters
lifted-max : (k l : ℕ) → lifted k l ≡ max k l
unfolding lifted
lifted-max k l = grind (arith, lt-ltb, le-ltb)

pub tokened_by_max : (r : Room) (me a m rest l : ℕ) (s : Option Reduce) → s ≡ leaving r a → (e : Entry) → e ≡ entry_of rest l → (x : Room) → x ≡ set_entry r a e
    → (k : ℕ) → k ≡ max r.counter l
    → record { room = with_counter (with_debt (with_token (with_modes x m 0) true me) None 0 0) k; send = s } ≡ tokened r me a m rest l
unfolding tokened tokened_by
tokened_by_max r me a m rest l s p e q x u k h = rw (p, u, q, h, ← lifted-max r.counter l)
