-- What the wires do to a loan: what is owed is the debt, or a GRANT's loan, or nothing for a TOKEN; an entry only falls, or a TOKEN sets it.
use Rattle.std.specs.Prelude.{◌≡◌, ◌⊎◌, false, ◌&&◌, ℕ, ◌≤◌, eqb}
use Rattle.std.proofs.Math.Path.{refl}
use Rattle.std.proofs.Common.{sym, ◌∙◌, ap, arith, eq-eqb}
use Rattle.std.proofs.Math.Logic.{inl, inr}
use Rattle.std.proofs.Math.Bool.{true}
use Rattle.std.proofs.lemmas.Bool.{false≢true}
use mathlib.Core.List.Memᴰ
use mathlib.Core.List.{List, [], ◌∷◌}
use Rattle.base.specs.Choice.{by-test, split}
use Rattle.base.specs.Tests.{and_right, clash}
use Rattle.base.specs.Sums.{one}
use Rattle.base.specs.Lists.{Mem, total, count, mem-total}
use Rattle.base.specs.Folds.{folds}
use Rattle.modes.specs.Codes.{IR}
use Rattle.modes.specs.Modes.{is_stronger}
use Rattle.modes.specs.Under.{under}
use Rattle.modes.proofs.Laws.{stronger-true, under-refl, under-trans}
use Rattle.room.specs.declared.Entry.{Entry}
use Rattle.room.specs.Record.{entry_of}
use Rattle.table.specs.declared.Wire.{Wire}
use Rattle.table.specs.declared.Message.{Message}
use Rattle.table.specs.declared.Message.TheVariants as msg
use Rattle.table.specs.Formed.{is_token, is_named_in}
use Rattle.table.specs.Oldest.{between}
use Rattle.ledger.specs.Loans.{flush, owe, arriving}
use Rattle.ledger.proofs.Arrivals.{arriving-other, arriving-this}
use Rattle.ledger.proofs.Frames.{same-wire, sender-is, receiver-is}
use Rattle.ledger.proofs.Debts.{is_setting, says, Set, owes, owes-kept}
use Rattle.owning.specs.Clauses.{ReduceSmall}
use Rattle.owning.proofs.Changes.{weak-under, entry-mode}
use Rattle.tree.specs.Tree.{NoTokenTo}

-- a GRANT of this loan is on the wire from p to c
pub record GrantOn (messages : List Wire) (p c : ℕ) (e : Entry) : Type 0 where
  pub wire : Wire
  pub member : Mem wire messages
  pub sender : wire.«from» ≡ p
  pub receiver : wire.to ≡ c
  pub is : wire.message ≡ msg.Grant e.mode e.link

-- a TOKEN with this remaining mode is on the wire from a to b
pub record TokenOn (messages : List Wire) (a b rest : ℕ) : Type 0 where
  pub wire : Wire
  pub member : Mem wire messages
  pub sender : wire.«from» ≡ a
  pub receiver : wire.to ≡ b
  pub mode : ℕ
  pub link : ℕ
  pub is : wire.message ≡ msg.Token mode rest link

-- it is a TOKEN to its receiver
pub token-told : {messages : List Wire} {a b rest : ℕ} → TokenOn messages a b rest → NoTokenTo b messages → ⊥
unfolding is_token
token-told t h = h t.wire t.member (ap is_token t.is) t.receiver

-- what is on the wire is there in a longer list
token-later : {messages : List Wire} {a b rest : ℕ} (x : Wire) → TokenOn messages a b rest → TokenOn (x ∷ messages) a b rest
token-later x t =
    record {
      wire = t.wire;
      member = Memᴰ.tail t.member;
      sender = t.sender;
      receiver = t.receiver;
      mode = t.mode;
      link = t.link;
      is = t.is;
    }

-- What is owed

module _ (p c : ℕ) where
  -- what is owed in the end: the debt, or the loan of a GRANT under way, or there is a TOKEN
  pub owed-by : (e : Entry) (messages : List Wire)
      → (folds (arriving owe p c) e messages ≡ e)
      ⊎ (GrantOn messages p c (folds (arriving owe p c) e messages) ⊎ ((rest : ℕ) × TokenOn messages p c rest))
  unfolding is_setting owe
  owed-by e messages = go (owes p c messages)
    where
      -- the message that decides
      by : (s : Set p c messages) (b : Message) → s.by.message ≡ b → is_setting b ≡ true
          → GrantOn messages p c (says b) ⊎ ((rest : ℕ) × TokenOn messages p c rest)
      by s msg.Nothing q h = absurd (false≢true h)
      by s (msg.Request o m idle) q h = absurd (false≢true h)
      by s (msg.Grant m l) q h =
          inl (record { wire = s.by; member = s.mem; sender = sender-is p c s.by s.on; receiver = receiver-is p c s.by s.on; is = q })
      by s (msg.Token m rest l) q h =
          inr (
            rest,
            record {
              wire = s.by;
              member = s.mem;
              sender = sender-is p c s.by s.on;
              receiver = receiver-is p c s.by s.on;
              mode = m;
              link = l;
              is = q;
            },
          )
      by s (msg.Reduce l m) q h = absurd (false≢true h)

      go : ((e : Entry) → folds (arriving owe p c) e messages ≡ e) ⊎ Set p c messages
          → (folds (arriving owe p c) e messages ≡ e)
          ⊎ (GrantOn messages p c (folds (arriving owe p c) e messages) ⊎ ((rest : ℕ) × TokenOn messages p c rest))
      go (inl k) = inl (k e)
      go (inr s) = inr (rw (s.owes e) (by s s.by.message refl s.setting))

  -- a message that does not name c decides nothing of what it owes
  unnamed-setting : (to : ℕ) (b : Message) → to ≡ c → is_named_in c to b ≡ false → is_setting b ≡ false
  unfolding is_setting is_named_in
  unnamed-setting to msg.Nothing at h = refl
  unnamed-setting to (msg.Request o m idle) at h = refl
  unnamed-setting to (msg.Grant m l) at h = clash (eq-eqb to c at) h
  unnamed-setting to (msg.Token m rest l) at h = clash (eq-eqb to c at) h
  unnamed-setting to (msg.Reduce l m) at h = refl

  -- so messages of which none names it leave what it owes
  owed-unnamed : (e : Entry) (messages : List Wire) → count (λ w. is_named_in c w.to w.message) messages ≡ 0
      → folds (arriving owe p c) e messages ≡ e
  owed-unnamed e messages z = owes-kept p c messages (λ w m b. unnamed-setting w.to w.message (receiver-is p c w b) (unnamed w m)) e
    where
      unnamed : (w : Wire) → Mem w messages → is_named_in c w.to w.message ≡ false
      unnamed w m =
          split (is_named_in c w.to w.message)
          (λ q. absurd (omega (arith, mem-total (λ w. one (is_named_in c w.to w.message)) m, ap one q)))
          (λ q. q)

  -- a GRANT under way is what is owed in the end, where at most one message names its receiver
  pub owed-grant : (e : Entry) (messages : List Wire) (m l : ℕ) (w : Wire) → Mem w messages → w.«from» ≡ p → w.to ≡ c → w.message ≡ msg.Grant m l
      → count (λ w. is_named_in c w.to w.message) messages ≤ 1 → folds (arriving owe p c) e messages ≡ record { mode = m; link = l }
  unfolding folds total owe is_named_in
  owed-grant e [] m l w member sender receiver is once = absurd (Memᴰ.not-nil member)
  owed-grant e (x ∷ messages) m l w member sender receiver is once =
      go (λ k. owed-grant (arriving owe p c e x) messages m l w k sender receiver is (omega arith)) (Memᴰ.cases_cons member)
    where
      named : w ≡ x → is_named_in c x.to x.message ≡ true
      named q = rw (← q, is) (eq-eqb w.to c receiver)

      first : w ≡ x → arriving owe p c e x ≡ record { mode = m; link = l }
      first q =
          arriving-this owe p c x (rw (← q) (same-wire p c w sender receiver)) e
          ∙ ap (λ (b : Message). owe e b) (sym (ap (λ (v : Wire). v.message) q) ∙ is)

      go : (Mem w messages → folds (arriving owe p c) (arriving owe p c e x) messages ≡ record { mode = m; link = l }) → (w ≡ x) ⊎ Mem w messages
          → folds (arriving owe p c) (arriving owe p c e x) messages ≡ record { mode = m; link = l }
      go r (inl q) =
          ap (λ (f : Entry). folds (arriving owe p c) f messages) (first q)
          ∙ owed-unnamed (record { mode = m; link = l }) messages (omega (arith, ap one (named q)))
      go r (inr k) = r k

-- What an entry becomes

-- a message leaves an entry or lowers it, or is a TOKEN with the mode that it has now
flush-by : (e : Entry) (b : Message) → ((l m : ℕ) → b ≡ msg.Reduce l m → m ≤ IR)
    → (under (flush e b).mode e.mode ≡ true) ⊎ ((m : ℕ) × (l : ℕ) × (b ≡ msg.Token m (flush e b).mode l))
unfolding flush
flush-by e msg.Nothing low = inl (under-refl e.mode)
flush-by e (msg.Request o m idle) low = inl (under-refl e.mode)
flush-by e (msg.Grant m l) low = inl (under-refl e.mode)
flush-by e (msg.Token m rest l) low = inr (m, l, ap (λ (k : ℕ). msg.Token m k l) (sym (entry-mode rest l)))
flush-by e (msg.Reduce l m) low =
    inl
    (by-test (λ (f : Entry). under f.mode e.mode ≡ true) (eqb e.link l && is_stronger e.mode m) (entry_of m l) e
    (λ q. rw (entry-mode m l)
    (weak-under m e.mode (low l m refl) (stronger-true e.mode m (and_right (eqb e.link l) (is_stronger e.mode m) q))))
    (λ q. under-refl e.mode))

-- an entry in the end: under the entry as it is, or under the remaining mode of a TOKEN on the wire
pub flushed-by : (p c : ℕ) (e : Entry) (messages : List Wire)
    → ((w : Wire) → Mem w messages → ReduceSmall w)
    → (under (folds (arriving flush c p) e messages).mode e.mode ≡ true)
    ⊎ ((rest : ℕ) × TokenOn messages c p rest × (under (folds (arriving flush c p) e messages).mode rest ≡ true))
unfolding folds
flushed-by p c e [] low = inl (under-refl e.mode)
flushed-by p c e (x ∷ messages) low = go here (flushed-by p c (arriving flush c p e x) messages (λ w m. low w (Memᴰ.tail m)))
  where
    Case : Entry → Type 0
    Case f = (under f.mode e.mode ≡ true) ⊎ ((rest : ℕ) × TokenOn (x ∷ messages) c p rest × (under f.mode rest ≡ true))

    here : Case (arriving flush c p e x)
    here =
        split (between c p x)
        (λ b. rw (arriving-this flush c p x b e) (by (sender-is c p x b, receiver-is c p x b) (flush-by e x.message (low x (Memᴰ.head refl)))))
        (λ b. inl (rw (arriving-other flush c p x b e) (under-refl e.mode)))
      where
        by : (x.«from» ≡ c) × (x.to ≡ p)
            → (under (flush e x.message).mode e.mode ≡ true) ⊎ ((m : ℕ) × (l : ℕ) × (x.message ≡ msg.Token m (flush e x.message).mode l))
            → Case (flush e x.message)
        by at (inl u) = inl u
        by at (inr (m, l, q)) =
            inr (
              (flush e x.message).mode,
              record { wire = x; member = Memᴰ.head refl; sender = at.0; receiver = at.1; mode = m; link = l; is = q },
              under-refl (flush e x.message).mode,
            )

    last : Entry
    last = folds (arriving flush c p) (arriving flush c p e x) messages

    go : Case (arriving flush c p e x)
        → (under last.mode (arriving flush c p e x).mode ≡ true) ⊎ ((rest : ℕ) × TokenOn messages c p rest × (under last.mode rest ≡ true))
        → Case last
    go (inl u) (inl v) = inl (under-trans last.mode (arriving flush c p e x).mode e.mode v u)
    go (inr (rest, t, u)) (inl v) = inr (rest, t, under-trans last.mode (arriving flush c p e x).mode rest v u)
    go h (inr (rest, t, v)) = inr (rest, token-later x t, v)
