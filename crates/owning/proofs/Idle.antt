-- IDLE is kept by each change.
use Rattle.std.specs.Prelude.{◌≡◌, refl, ◌≢◌, ◌⊎◌, Bool, true, List, [], ◌∷◌, ◌++◌, ℕ, ◌≤◌, ◌<◌, length}
use Rattle.std.proofs.Common.{ap, inl, inr, ⊎_elim, arith}
use Rattle.base.specs.Sums.{same?}
use Rattle.base.specs.Lists.{Mem, remove, mem-remove}
use Rattle.modes.specs.Codes.{IR}
use Rattle.modes.specs.Modes.{can_lend}
use Rattle.modes.proofs.Laws.{low_small}
use Rattle.room.specs.declared.Room.{Room}
use Rattle.room.specs.Limits.{room_limit}
use Rattle.room.specs.Owned.{owned}
use Rattle.room.specs.Rules.{lent_to, passed_to, credited, reduced}
use Rattle.table.specs.declared.Wire.{Wire}
use Rattle.table.specs.declared.Message.TheVariants as msg
use Rattle.facts.specs.Wires.{wire, leaving_sent}
use Rattle.owning.specs.Clauses.{Agreeing, Free, RequestIdle, Idle}
use Rattle.owning.proofs.Falls.{under-small-le}
use Rattle.owning.proofs.Weaker.{Weaker, credited-weaker, lent-weaker, passed-weaker, reduced-weaker}
use Rattle.owning.specs.Messages.{Among, sent-among, leaving-among, leaving_wire, kind, Unnamed, unnamed-request}

module _ (rooms : ℕ → Room) (messages : List Wire) (d : Idle rooms messages) where
  -- other messages: only the new one has to be looked at
  among : (after : List Wire) (x : Wire) → Among after messages x → RequestIdle rooms x → Idle rooms after
  among after x a g w h = ⊎_elim (d w) (λ (e : w ≡ x). rw e g) (a w h)

  sent : (x : Wire) → RequestIdle rooms x → Idle rooms (messages ++ (x ∷ []))
  sent x g = among (messages ++ (x ∷ [])) x (sent-among messages x) g

  -- a message is taken off
  pub idle-taken : (k : ℕ) → Idle rooms (remove k messages)
  idle-taken k w h = d w (mem-remove k messages h)

  -- a REQUEST is sent that says so only if its origin owns nothing
  pub idle-request : (a b o m : ℕ) (idle : Bool) → (idle ≡ true → Free (rooms o))
      → Idle rooms (messages ++ (wire a b (msg.Request o m idle) ∷ []))
  idle-request a b o m idle g =
      sent (wire a b (msg.Request o m idle)) λ p k e.
      let origin : o ≡ p = cc in
      let says : idle ≡ true = cc in
      rw (← origin) (g says)

  leaving : (me : ℕ) (r : Room) (a : ℕ) → Idle rooms (messages ++ leaving_sent me r a)
  leaving me r a =
      among (messages ++ leaving_sent me r a) (leaving_wire me r) (leaving-among messages me r a) (λ o m e. absurd (omega (arith, ap kind e)))

module _ (n : ℕ) (old new : ℕ → Room) (messages : List Wire) (me : ℕ) (low : me < n) (others : (c : ℕ) → c ≢ me → new c ≡ old c)
    (d : Idle old messages) where
  -- other records: only the REQUESTs of the changed room have to be looked at
  room : ((w : Wire) → Mem w messages → (m : ℕ) → w.message ≡ msg.Request me m true → Free (new me)) → Idle new messages
  room g w h o m e = go (same? o me)
    where
      go : (o ≡ me) ⊎ (o ≢ me) → Free (new o)
      go (inl q) = rw q (g w h m (rw q at e))
      go (inr q) = rw (others o q) (d w h o m e)

  -- the room owns no more than before
  pub idle-weaker : Weaker (old me) (new me) → Idle new messages
  idle-weaker u = room (λ w h m e. none-still (d w h me m e))
    where
      none-still : Free (old me) → Free (new me)
      none-still z = omega (arith, under-small-le (owned (new me)) (owned (old me)) (low_small (owned (old me)) (omega arith)) u)

  -- it began no REQUEST
  pub idle-unnamed : Unnamed me messages → Idle new messages
  idle-unnamed u = room (λ w h m e. absurd (unnamed-request me messages u w h me m true e refl))

  -- "settle"
  pub idle-settle : Agreeing (old me) → (y l m : ℕ) → new me ≡ credited (old me) m → Idle new (messages ++ (wire me y (msg.Reduce l m) ∷ []))
  idle-settle a y l m here =
      sent new messages (idle-weaker (rw here (credited-weaker (old me) a m))) (wire me y (msg.Reduce l m)) (λ o m e. absurd (omega (arith, ap kind e)))

  module _ (a : Agreeing (old me)) (fits : n ≤ room_limit) (long : length (old me).entries ≡ room_limit) (y : ℕ) (near : y < n) where
    -- "lend"
    pub idle-lend : (m l : ℕ) → can_lend (owned (old me)) m ≡ true → new me ≡ lent_to (old me) y m
        → Idle new (messages ++ (wire me y (msg.Grant m l) ∷ []))
    idle-lend m l can here =
        sent new messages (idle-weaker (rw here (lent-weaker (old me) a y long (omega arith) m can))) (wire me y (msg.Grant m l))
        (λ o m e. absurd (omega (arith, ap kind e)))

    -- "pass"
    pub idle-pass : (m rest l : ℕ) → new me ≡ passed_to (old me) y → Idle new (messages ++ (wire me y (msg.Token m rest l) ∷ []))
    idle-pass m rest l here =
        sent new messages (idle-weaker (rw here (passed-weaker (old me) a y long (omega arith)))) (wire me y (msg.Token m rest l))
        (λ o m e. absurd (omega (arith, ap kind e)))

    -- a REDUCE to none or IR arrives
    pub idle-reduce : (k l m : ℕ) → m ≤ IR → new me ≡ reduced (old me) y l m → Idle new (remove k messages)
    idle-reduce k l m weak here = idle-taken new messages (idle-weaker (rw here (reduced-weaker (old me) a y long (omega arith) l m weak))) k

-- a GRANT or a TOKEN arrives, and the room has begun no REQUEST
pub idle-arrived : (n : ℕ) (old new : ℕ → Room) (messages : List Wire) (me : ℕ) → me < n → ((c : ℕ) → c ≢ me → new c ≡ old c)
    → Idle old messages → (k a : ℕ) → Unnamed me (remove k messages) → Idle new (remove k messages ++ leaving_sent me (old me) a)
idle-arrived n old new messages me low others d k a unnamed =
    leaving new (remove k messages) (idle-unnamed n old new (remove k messages) me low others (idle-taken old messages d k) unnamed) me (old me) a
