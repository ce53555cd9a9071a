-- One room's record changes: what names no changed room stays right, and so does what names one that waits as before.
use Rattle.std.specs.Prelude.{◌≡◌, refl, ◌≢◌, ◌⊎◌, Bool, true, false, List, ℕ, ◌+◌, ◌≤◌, ◌<◌, ltb}
use Rattle.std.proofs.Common.{sym, ◌∙◌, inl, inr, arith}
use Rattle.std.proofs.Math.Path.{ap}
use Rattle.std.proofs.Math.Logic.{⊎_elim}
use borrow.Author.Tests.{eq-eqb}
use Rattle.base.specs.Sums.{one, same?, sum, sum-differ}
use Rattle.base.specs.Lists.{Mem, mem-total}
use Rattle.room.specs.declared.Room.{Room}
use Rattle.table.specs.declared.Wire.{Wire}
use Rattle.table.specs.declared.Queued.{Queued}
use Rattle.table.specs.declared.Message.{Message}
use Rattle.table.specs.declared.Message.TheVariants as msg
use Rattle.table.specs.Formed.{due, is_named_in, tokens, names}
use Rattle.facts.specs.Rooms.{RoomFacts}
use Rattle.facts.specs.Moments.{QueuedFacts}
use Rattle.facts.specs.Messages.{Proper, proper, in_use}
use Rattle.kept.specs.Moment.{Right, Moment, waiting}
use Rattle.kept.specs.Hand.{name_of, names_of}

-- a record that waits as before, and has not gained the token
pub record Alike (old new : Room) : Type 0 where
  pub waits : due new ≡ due old
  pub token : old.token ≡ false → new.token ≡ false

alike_refl : (r : Room) → Alike r r
alike_refl r = record { waits = refl; token = λ e. e }

module _ (old new : ℕ → Room) where
  -- a place of the queue that names a room that is alike is as it should be still,
  queued-keep : (n : ℕ) (q : Queued) → Alike (old q.room) (new q.room) → QueuedFacts n old q → QueuedFacts n new q
  queued-keep n q a f = record { low = f.low; some = f.some; code = f.code; waits = a.waits ∙ f.waits }

  -- and so is a message that names only such rooms
  proper-keep : (n to : ℕ) (m : Message) → ((c : ℕ) → is_named_in c to m ≡ true → Alike (old c) (new c)) → Proper n old to m → Proper n new to m
  unfolding is_named_in
  proper-keep n to msg.Nothing a p = p
  proper-keep n to (msg.Request o m idle) a p = queued-keep n (record { room = o; mode = m }) (a o (eq-eqb o o refl)) p
  proper-keep n to (msg.Grant m l) a p =
      let same = a to (eq-eqb to to refl) in
      record { some = p.some; weak = p.weak; waits = same.waits ∙ p.waits; without = same.token p.without }
  proper-keep n to (msg.Token m rest l) a p =
      record { some = p.some; code = p.code; rest-code = p.rest-code; waits = (a to (eq-eqb to to refl)).waits ∙ p.waits }
  proper-keep n to (msg.Reduce l m) a p = p

  right-keep : (n : ℕ) (w : Wire) → ((c : ℕ) → is_named_in c w.to w.message ≡ true → Alike (old c) (new c))
      → Right n old w → Right n new w
  unfolding is_named_in
  right-keep n w a r =
      record {
        facts = in_use n new w r.facts.from_low r.facts.to_low r.facts.apart (proper-keep n w.to w.message a (proper r.facts));
        unowned = λ o m idle e. (a o (ap (λ (b : Message). is_named_in o w.to b) e ∙ eq-eqb o o refl)).token (r.unowned o m idle e);
      }

module _ (n : ℕ) (old new : ℕ → Room) (queue : List Queued) (messages : List Wire) (me : ℕ) (low : me < n)
    (others : (c : ℕ) → c ≢ me → new c ≡ old c) (hand : ℕ → ℕ) (loose : ℕ) (s : Moment n old queue messages hand loose)
    (f : RoomFacts n me (new me)) where
  -- Whatever names a room names one that is alike: either nothing names the changed room, or its record is alike.
  module _ (calm : (names queue messages me ≡ 0) ⊎ Alike (old me) (new me)) where
    alike_at : (c : ℕ) → (c ≡ me → 1 ≤ names queue messages me) → Alike (old c) (new c)
    alike_at c h = go calm (same? c me)
      where
        go : (names queue messages me ≡ 0) ⊎ Alike (old me) (new me) → (c ≡ me) ⊎ (c ≢ me) → Alike (old c) (new c)
        go (inl z) (inl e) = absurd (omega (arith, h e))
        go (inr a) (inl e) = rw e a
        go k (inr e) = rw (others c e) (alike_refl (old c))

    queued-names : (q : Queued) → Mem q queue → q.room ≡ me → 1 ≤ names queue messages me
    unfolding names
    queued-names q m e = omega (arith, mem-total (λ q. name_of q me) m, ap one (eq-eqb q.room me e))

    message-names : (w : Wire) → Mem w messages → is_named_in me w.to w.message ≡ true → 1 ≤ names queue messages me
    unfolding names
    message-names w m e = omega (arith, mem-total (λ w. names_of w me) m, ap one e)

    pub change : (left : ℕ → ℕ) (rest : ℕ) → ((c : ℕ) → c < n → c ≢ me → left c ≡ hand c)
        → names queue messages me + left me ≡ waiting (new me) → rest + one (new me).token ≡ loose + one (old me).token
        → Moment n new queue messages left rest
    unfolding tokens
    change left rest there here token =
        record {
          room = λ c l. ⊎_elim (λ e. rw e f) (λ e. rw (others c e) (s.room c l)) (same? c me);
          queued = λ q m. queued-keep old new n q (alike_at q.room (λ e. queued-names q m e)) (s.queued q m);
          right = λ w m. right-keep old new n w (λ c e. alike_at c (λ k. message-names w m (rw k at e))) (s.right w m);
          token = omega (arith, s.token, token, counts);
          named = λ c l. ⊎_elim (λ e. rw e here) (λ e. elsewhere c l e) (same? c me);
        }
      where
        counts : sum n (λ c. one (new c).token) + one (old me).token ≡ sum n (λ c. one (old c).token) + one (new me).token
        counts = sum-differ n (λ c. one (old c).token) (λ c. one (new c).token) me low (λ c l e. ap (λ (r : Room). one r.token) (sym (others c e)))

        elsewhere : (c : ℕ) → c < n → c ≢ me → names queue messages c + left c ≡ waiting (new c)
        elsewhere c l e = ap (λ (k : ℕ). names queue messages c + k) (there c l e) ∙ s.named c l ∙ ap waiting (sym (others c e))

  -- it waits as before, and has the token exactly if it had it
  pub change-alike : due (new me) ≡ due (old me) → (new me).token ≡ (old me).token → Moment n new queue messages hand loose
  change-alike d t =
      change (inr (record { waits = d; token = λ e. t ∙ e })) hand loose (λ c l e. refl)
      (s.named me low ∙ ap (λ (m : ℕ). one (ltb 0 m)) (sym d)) (ap (λ (b : Bool). loose + one b) t)

  -- it waits as before, and its token is in hand now
  pub change-passing : due (new me) ≡ due (old me) → (old me).token ≡ true → (new me).token ≡ false
      → Moment n new queue messages hand (loose + 1)
  change-passing d t u =
      change (inr (record { waits = d; token = λ e. u })) hand (loose + 1) (λ c l e. refl)
      (s.named me low ∙ ap (λ (m : ℕ). one (ltb 0 m)) (sym d)) (rw (t, u) (omega arith))
