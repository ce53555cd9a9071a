-- A message in use by its kind: the modes that it may have, and the room that it names.
use Rattle.std.specs.Prelude.{◌≡◌, ◌⊎◌, ◌≢◌, true, false, ◌||◌, ℕ, ◌≤◌, ◌<◌, ltb, leb, eqb}
use Rattle.std.proofs.Math.Path.{refl}
use Rattle.std.proofs.Common.{inl, inr, ⊎_elim, arith}
use Rattle.std.proofs.lemmas.Bool.{false≢true}
use borrow.Author.Tests.{ltb-true, leb-true, eqb-true, not-true, lt-ltb, le-leb, eq-eqb}
use Rattle.base.specs.Sums.{same?}
use Rattle.base.specs.Tests.{and_left, and_right, or-use, ◌also◌}
use Rattle.modes.specs.Codes.{IR, R, IW, W}
use Rattle.modes.specs.Under.{small}
use Rattle.modes.proofs.Laws.{weak-small, small-weak, small-code, low_small}
use Rattle.room.specs.declared.Room.{Room}
use Rattle.table.specs.declared.Wire.{Wire}
use Rattle.table.specs.declared.Message.{Message}
use Rattle.table.specs.declared.Message.TheVariants as msg
use Rattle.table.specs.Formed.{is_mode, due, is_granted, message_fine, names_rightly}
use Rattle.facts.specs.Moments.{QueuedFacts, MessageFacts}

-- a GRANT of mode m to a room with this record
pub record GrantFacts (r : Room) (m : ℕ) : Type 0 where
  -- "GRANT modes only IR, R, IW"
  pub some : IR ≤ m
  pub weak : small m ≡ true
  -- its receiver waits for that mode
  pub waits : due r ≡ m
  -- "the room with the token has .. no GRANT under way to it"
  pub without : r.token ≡ false

-- a TOKEN with mode m and remaining mode rest to a room with this record
pub record TokenFacts (r : Room) (m rest : ℕ) : Type 0 where
  -- "other message modes not none except the remaining mode and REDUCE"
  pub some : IR ≤ m
  pub code : m ≤ W
  pub rest-code : rest ≤ W
  -- its receiver waits for that mode
  pub waits : due r ≡ m

-- what a message in use to room `to` has; a REQUEST names its origin as a place of the queue does
abbrev pub Proper : ℕ → (ℕ → Room) → ℕ → Message → Type 0
Proper n rooms to msg.Nothing = ⊥
Proper n rooms to (msg.Request o m idle) = QueuedFacts n rooms (record { room = o; mode = m })
Proper n rooms to (msg.Grant m l) = GrantFacts (rooms to) m
Proper n rooms to (msg.Token m rest l) = TokenFacts (rooms to) m rest
Proper n rooms to (msg.Reduce l m) = m ≤ W

-- IR, R and IW are the small modes but none
granted-weak : (m : ℕ) → is_granted m ≡ true → (IR ≤ m) × (small m ≡ true)
unfolding is_granted
granted-weak m h =
    ⊎_elim
    (λ low. ⊎_elim (is IR (omega arith) (omega arith)) (is R (omega arith) (omega arith)) (or-use (eqb m IR) (eqb m R) low))
    (λ e. rw (eqb-true m IW e) (omega arith, weak-small IW (omega arith) (λ u. omega arith) (λ u. omega arith)))
    (or-use (eqb m IR || eqb m R) (eqb m IW) h)
  where
    is : (k : ℕ) → IR ≤ k → k ≤ R → eqb m k ≡ true → (IR ≤ m) × (small m ≡ true)
    is k some low e = rw (eqb-true m k e) (some, low_small k low)

weak-granted : (m : ℕ) → IR ≤ m → small m ≡ true → is_granted m ≡ true
unfolding is_granted
weak-granted m some weak = go (same? m IR) (same? m R)
  where
    go : (m ≡ IR) ⊎ (m ≢ IR) → (m ≡ R) ⊎ (m ≢ R) → (eqb m IR || eqb m R || eqb m IW) ≡ true
    go (inl e) k = rw e refl
    go (inr e) (inl k) = rw k refl
    go (inr e) (inr k) = let is : m ≡ IW = omega (arith, small-code m weak, (small-weak m weak).0, (small-weak m weak).1) in rw is refl

module _ (n : ℕ) (rooms : ℕ → Room) (to : ℕ) where
  proper-of : (m : Message) → message_fine n m ≡ true → names_rightly rooms to m ≡ true → Proper n rooms to m
  unfolding message_fine names_rightly
  proper-of msg.Nothing f r = absurd (false≢true f)
  proper-of (msg.Request o m idle) f r =
      record {
        low = ltb-true o n (and_left _ _ f);
        some = leb-true _ _ (and_left _ _ (and_right (ltb o n) (is_mode m) f));
        code = leb-true _ _ (and_right (leb IR m) _ (and_right (ltb o n) (is_mode m) f));
        waits = eqb-true _ _ r;
      }
  proper-of (msg.Grant m l) f r =
      record {
        some = (granted-weak m f).0;
        weak = (granted-weak m f).1;
        waits = eqb-true _ _ (and_left _ _ r);
        without = not-true _ (and_right (eqb (due (rooms to)) m) _ r);
      }
  proper-of (msg.Token m rest l) f r =
      record {
        some = leb-true _ _ (and_left _ _ (and_left (is_mode m) _ f));
        code = leb-true _ _ (and_right (leb IR m) _ (and_left (is_mode m) _ f));
        rest-code = leb-true _ _ (and_right (is_mode m) _ f);
        waits = eqb-true _ _ r;
      }
  proper-of (msg.Reduce l m) f r = leb-true _ _ f

  proper-fine : (m : Message) → Proper n rooms to m → message_fine n m ≡ true
  unfolding message_fine
  proper-fine msg.Nothing p = absurd p
  proper-fine (msg.Request o m idle) p = lt-ltb o n p.low also (le-leb IR m p.some also le-leb m W p.code)
  proper-fine (msg.Grant m l) p = weak-granted m p.some p.weak
  proper-fine (msg.Token m rest l) p = le-leb IR m p.some also le-leb m W p.code also le-leb rest W p.rest-code
  proper-fine (msg.Reduce l m) p = le-leb m W p

  proper-rightly : (m : Message) → Proper n rooms to m → names_rightly rooms to m ≡ true
  unfolding names_rightly
  proper-rightly msg.Nothing p = absurd p
  proper-rightly (msg.Request o m idle) p = eq-eqb _ _ p.waits
  proper-rightly (msg.Grant m l) p = eq-eqb _ _ p.waits also rw p.without refl
  proper-rightly (msg.Token m rest l) p = eq-eqb _ _ p.waits
  proper-rightly (msg.Reduce l m) p = refl

-- each message in use is as its kind should be,
pub proper : {n : ℕ} {rooms : ℕ → Room} {w : Wire} → MessageFacts n rooms w → Proper n rooms w.to w.message
proper {n} {rooms} {w} f = proper-of n rooms w.to w.message f.fine f.rightly

-- and one that is, from one of the n rooms to another, may be in use
pub in_use : (n : ℕ) (rooms : ℕ → Room) (w : Wire) → w.«from» < n → w.to < n → w.«from» ≢ w.to → Proper n rooms w.to w.message
    → MessageFacts n rooms w
in_use n rooms w from_low to_low apart p =
    record {
      from_low = from_low;
      to_low = to_low;
      apart = apart;
      fine = proper-fine n rooms w.to w.message p;
      rightly = proper-rightly n rooms w.to w.message p;
    }
