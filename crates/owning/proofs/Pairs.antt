-- PAIRS after a change of one record or of the messages: what is left to be shown.
use Rattle.std.specs.Prelude.{◌≡◌, ◌≢◌, ◌⊎◌, Bool, true, List, [], ◌∷◌, ◌++◌, ℕ, ◌≤◌, ◌<◌}
use Rattle.std.proofs.Common.{ap, inl, inr, ⊎_elim, arith}
use Rattle.base.specs.Sums.{same?}
use Rattle.base.specs.Lists.{Mem, remove, mem-remove}
use Rattle.modes.specs.Modes.{agrees, can_lend}
use Rattle.modes.proofs.Laws.{agrees-under, lends-under}
use Rattle.room.specs.declared.Room.{Room}
use Rattle.room.specs.Limits.{room_limit}
use Rattle.room.specs.Owned.{owned}
use Rattle.table.specs.declared.Wire.{Wire}
use Rattle.table.specs.declared.Message.TheVariants as msg
use Rattle.facts.specs.Wires.{wire, leaving_sent}
use Rattle.owning.specs.Parts.{part}
use Rattle.owning.specs.Clauses.{Agreeing, Pairs}
use Rattle.owning.proofs.Owned.{owned-any}
use Rattle.owning.proofs.Changes.{Falls, Alters}
use Rattle.owning.proofs.Falls.{falls-agreeing, loan-agreeing}
use Rattle.owning.specs.Messages.{Among, sent-among, leaving-among, leaving_wire, kind, Unnamed, unnamed-token}

-- a mode agrees with all modes of a room
abbrev pub AgreesWith : ℕ → Room → Type 0
AgreesWith m r = (i : ℕ) → i ≤ room_limit → agrees m (part r i) ≡ true

-- the modes of a TOKEN agree with each other and with those of its receiver
abbrev pub TokenFits : (ℕ → Room) → Wire → Type 0
TokenFits rooms w =
    (m rest l : ℕ) → w.message ≡ msg.Token m rest l → (agrees m rest ≡ true) × AgreesWith m (rooms w.to) × AgreesWith rest (rooms w.to)

module _ (n : ℕ) (rooms : ℕ → Room) where
  -- PAIRS, room by room and message by message
  joined : (messages : List Wire) → ((c : ℕ) → c < n → Agreeing (rooms c)) → ((w : Wire) → Mem w messages → TokenFits rooms w)
      → Pairs n rooms messages
  joined messages room token =
      record {
        room = room;
        both = λ w h m rest l e. (token w h m rest l e).0;
        mode = λ w h m rest l e. (token w h m rest l e).1;
        rest = λ w h m rest l e. (token w h m rest l e).2;
      }

  pub token-fits : (messages : List Wire) → Pairs n rooms messages → (w : Wire) → Mem w messages → TokenFits rooms w
  token-fits messages p w h m rest l e = (p.both w h m rest l e, p.mode w h m rest l e, p.rest w h m rest l e)

  -- other messages: only the new one has to be looked at
  among : (before after : List Wire) (x : Wire) → Among after before x → TokenFits rooms x → Pairs n rooms before → Pairs n rooms after
  among before after x a t p = joined after p.room (λ w h. ⊎_elim (token-fits before p w) (λ (e : w ≡ x). rw e t) (a w h))

  module _ (messages : List Wire) (p : Pairs n rooms messages) where
    pub pairs-taken : (k : ℕ) → Pairs n rooms (remove k messages)
    pairs-taken k = joined (remove k messages) p.room (λ w h. token-fits messages p w (mem-remove k messages h))

    pub pairs-sent : (x : Wire) → TokenFits rooms x → Pairs n rooms (messages ++ (x ∷ []))
    pairs-sent x t = among messages (messages ++ (x ∷ [])) x (sent-among messages x) t p

    pub pairs-leaving : (me : ℕ) (r : Room) (a : ℕ) → Pairs n rooms (messages ++ leaving_sent me r a)
    pairs-leaving me r a =
        among messages (messages ++ leaving_sent me r a) (leaving_wire me r) (leaving-among messages me r a)
        (λ m rest l e. absurd (omega (arith, ap kind e))) p

    -- a REQUEST is sent
    pub pairs-request : (a b o m : ℕ) (idle : Bool) → Pairs n rooms (messages ++ (wire a b (msg.Request o m idle) ∷ []))
    pairs-request a b o m idle = pairs-sent (wire a b (msg.Request o m idle)) (λ m rest l e. absurd (omega (arith, ap kind e)))

module _ (n : ℕ) (old new : ℕ → Room) (messages : List Wire) (me : ℕ) (low : me < n) (others : (c : ℕ) → c ≢ me → new c ≡ old c)
    (p : Pairs n old messages) where
  -- other records: only the changed one has to be looked at
  room : Agreeing (new me) → ((w : Wire) → Mem w messages → w.to ≡ me → TokenFits new w) → Pairs n new messages
  room a t = joined n new messages (λ c h. each c h (same? c me)) (λ w h. token w h (same? w.to me))
    where
      each : (c : ℕ) → c < n → (c ≡ me) ⊎ (c ≢ me) → Agreeing (new c)
      each c h (inl e) = rw e a
      each c h (inr e) = rw (others c e) (p.room c h)

      token : (w : Wire) → Mem w messages → (w.to ≡ me) ⊎ (w.to ≢ me) → TokenFits new w
      token w h (inl e) = t w h e
      token w h (inr e) = rw (others w.to e) (token-fits n old messages p w h)

  -- a TOKEN to the changed room fits if whatever agreed with its modes before agrees with them now
  token-here : ((m : ℕ) → AgreesWith m (old me) → AgreesWith m (new me)) → (w : Wire) → Mem w messages → w.to ≡ me → TokenFits new w
  token-here f w h e m rest l q =
      let t = rw e at (token-fits n old messages p w h m rest l q) in
      rw e (t.0, f m t.1, f rest t.2)

  -- its modes fall
  pub pairs-falls : Falls (old me) (new me) → Pairs n new messages
  pairs-falls f =
      room (falls-agreeing (old me) (new me) (p.room me low) f)
      (token-here (λ m g i h. agrees-under (part (new me) i) (part (old me) i) m (f i h) (g i h)))

  -- one of its modes is lent by what it owns
  pub pairs-loan : (x m : ℕ) → Alters (old me) (new me) x m → can_lend (owned (old me)) m ≡ true → Pairs n new messages
  pairs-loan x m c can = room (loan-agreeing (old me) (new me) (p.room me low) x m c can) (token-here (λ k g i h. go k g i h (same? i x)))
    where
      go : (k : ℕ) → AgreesWith k (old me) → (i : ℕ) → i ≤ room_limit → (i ≡ x) ⊎ (i ≢ x) → agrees k (part (new me) i) ≡ true
      go k g i h (inl e) =
          rw (e, c.there) (agrees-under m (owned (old me)) k (lends-under (owned (old me)) m can) (owned-any (old me) (λ (o : ℕ). agrees k o ≡ true) g))
      go k g i h (inr e) = rw (c.others i h e) (g i h)

  -- no TOKEN goes to it
  pub pairs-unnamed : Agreeing (new me) → Unnamed me messages → Pairs n new messages
  pairs-unnamed a u = room a (λ w h e m rest l q. absurd (unnamed-token me messages u w h e m rest l q))
