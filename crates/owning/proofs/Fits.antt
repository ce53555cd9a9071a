-- FITS is kept by each change.
use Rattle.std.specs.Prelude.{◌≡◌, ◌≢◌, ◌⊎◌, Bool, true, List, [], ◌∷◌, ◌++◌, ℕ, ◌≤◌, ◌<◌, length}
use Rattle.std.proofs.Common.{ap, inl, inr, ⊎_elim, arith}
use Rattle.base.specs.Sums.{same?}
use Rattle.base.specs.Lists.{Mem, remove, mem-remove}
use Rattle.modes.specs.Codes.{IR}
use Rattle.modes.specs.Modes.{can_lend}
use Rattle.modes.specs.Under.{under}
use Rattle.modes.proofs.Laws.{under-trans}
use Rattle.room.specs.declared.Room.{Room}
use Rattle.room.specs.Limits.{room_limit}
use Rattle.room.specs.Owned.{owned}
use Rattle.room.specs.Rules.{lent_to, passed_to, credited, reduced}
use Rattle.table.specs.declared.Wire.{Wire}
use Rattle.table.specs.declared.Message.TheVariants as msg
use Rattle.facts.specs.Wires.{wire, leaving_sent}
use Rattle.owning.specs.Clauses.{Agreeing, GrantFits, Fits}
use Rattle.owning.proofs.Weaker.{Weaker, credited-weaker, lent-weaker, passed-weaker, reduced-weaker}
use Rattle.owning.specs.Messages.{Among, sent-among, leaving-among, leaving_wire, kind, Unnamed, unnamed-grant}

module _ (rooms : ℕ → Room) (messages : List Wire) (f : Fits rooms messages) where
  -- other messages: only the new one has to be looked at
  among : (after : List Wire) (x : Wire) → Among after messages x → GrantFits rooms x → Fits rooms after
  among after x a g w h = ⊎_elim (f w) (λ (e : w ≡ x). rw e g) (a w h)

  sent : (x : Wire) → GrantFits rooms x → Fits rooms (messages ++ (x ∷ []))
  sent x g = among (messages ++ (x ∷ [])) x (sent-among messages x) g

  -- a message is taken off
  pub fits-taken : (k : ℕ) → Fits rooms (remove k messages)
  fits-taken k w h = f w (mem-remove k messages h)

  -- a REQUEST is sent
  pub fits-request : (a b o m : ℕ) (idle : Bool) → Fits rooms (messages ++ (wire a b (msg.Request o m idle) ∷ []))
  fits-request a b o m idle = sent (wire a b (msg.Request o m idle)) (λ m l e. absurd (omega (arith, ap kind e)))

  leaving : (me : ℕ) (r : Room) (a : ℕ) → Fits rooms (messages ++ leaving_sent me r a)
  leaving me r a =
      among (messages ++ leaving_sent me r a) (leaving_wire me r) (leaving-among messages me r a) (λ m l e. absurd (omega (arith, ap kind e)))

module _ (n : ℕ) (old new : ℕ → Room) (messages : List Wire) (me : ℕ) (low : me < n) (others : (c : ℕ) → c ≢ me → new c ≡ old c)
    (f : Fits old messages) where
  -- other records: only the GRANTs to the changed room have to be looked at
  room : ((w : Wire) → Mem w messages → w.to ≡ me → GrantFits new w) → Fits new messages
  room g w h = go (same? w.to me)
    where
      go : (w.to ≡ me) ⊎ (w.to ≢ me) → GrantFits new w
      go (inl q) = g w h q
      go (inr q) = rw (others w.to q) (f w h)

  -- the room owns no more than before
  pub fits-weaker : Weaker (old me) (new me) → Fits new messages
  fits-weaker u =
      room (λ w h q m l e. rw q (under-trans (owned (new me)) (owned (old me)) m u (rw q at (f w h m l e))))

  -- no GRANT goes to it
  pub fits-unnamed : Unnamed me messages → Fits new messages
  fits-unnamed u = room (λ w h q m l e. absurd (unnamed-grant me messages u w h q m l e))

  -- "settle"
  pub fits-settle : Agreeing (old me) → (y l m : ℕ) → new me ≡ credited (old me) m → Fits new (messages ++ (wire me y (msg.Reduce l m) ∷ []))
  fits-settle a y l m here =
      sent new messages (fits-weaker (rw here (credited-weaker (old me) a m))) (wire me y (msg.Reduce l m)) (λ m l e. absurd (omega (arith, ap kind e)))

  module _ (a : Agreeing (old me)) (fits : n ≤ room_limit) (long : length (old me).entries ≡ room_limit) (y : ℕ) (near : y < n) where
    -- "lend": the new GRANT fits
    pub fits-lend : (m l : ℕ) → y ≢ me → can_lend (owned (old me)) m ≡ true → under (owned (old y)) m ≡ true → new me ≡ lent_to (old me) y m
        → Fits new (messages ++ (wire me y (msg.Grant m l) ∷ []))
    fits-lend m l other can u here =
        sent new messages (fits-weaker (rw here (lent-weaker (old me) a y long (omega arith) m can))) (wire me y (msg.Grant m l)) λ k q e.
        let mode : m ≡ k = cc in
        rw (← mode, others y other) u

    -- "pass"
    pub fits-pass : (m rest l : ℕ) → new me ≡ passed_to (old me) y → Fits new (messages ++ (wire me y (msg.Token m rest l) ∷ []))
    fits-pass m rest l here =
        sent new messages (fits-weaker (rw here (passed-weaker (old me) a y long (omega arith)))) (wire me y (msg.Token m rest l))
        (λ m l e. absurd (omega (arith, ap kind e)))

    -- a REDUCE to none or IR arrives
    pub fits-reduce : (k l m : ℕ) → m ≤ IR → new me ≡ reduced (old me) y l m → Fits new (remove k messages)
    fits-reduce k l m weak here = fits-taken new messages (fits-weaker (rw here (reduced-weaker (old me) a y long (omega arith) l m weak))) k

-- a GRANT or a TOKEN arrives, and no other GRANT goes to the room
pub fits-arrived : (n : ℕ) (old new : ℕ → Room) (messages : List Wire) (me : ℕ) → me < n → ((c : ℕ) → c ≢ me → new c ≡ old c)
    → Fits old messages → (k a : ℕ) → Unnamed me (remove k messages) → Fits new (remove k messages ++ leaving_sent me (old me) a)
fits-arrived n old new messages me low others f k a unnamed =
    leaving new (remove k messages) (fits-unnamed n old new (remove k messages) me low others (fits-taken old messages f k) unnamed) me (old me) a
