-- SMALL is kept by each change.
use Rattle.std.specs.Prelude.{◌≡◌, refl, ◌≢◌, ◌⊎◌, Bool, true, false, List, [], ◌∷◌, ◌++◌, ℕ, ◌≤◌, ◌<◌, length, get_or}
use Rattle.std.proofs.Common.{sym, ◌∙◌, ap, inl, inr, ⊎_elim, arith}
use Rattle.base.specs.Sums.{same?}
use Rattle.base.specs.Lists.{remove, mem-at, mem-remove}
use Rattle.std.specs.Prelude.{Option}
use Rattle.modes.specs.Codes.{none, IR, R}
use Rattle.modes.specs.Modes.{agrees, can_lend}
use Rattle.modes.specs.Under.{under, small}
use Rattle.modes.proofs.Laws.{lends-small, low_small, not-lent-low, under-small-falls}
use Rattle.room.specs.declared.Room.{Room}
use Rattle.room.specs.Limits.{room_limit}
use Rattle.room.specs.Record.{entry_of, entry_at, with_modes, with_debt, set_entry}
use Rattle.room.specs.Owned.{owned}
use Rattle.room.proofs.Owning.{owned-either}
use Rattle.room.specs.Rules.{lent_to, remaining, passed_to, credited, tokened_by, reduced}
use Rattle.table.specs.declared.Wire.{Wire}
use Rattle.table.specs.declared.Message.TheVariants as msg
use Rattle.table.specs.Tables.{no_wire}
use Rattle.facts.specs.Wires.{wire, leaving_sent}
use Rattle.facts.specs.Cases.{reduced-either}
use Rattle.owning.specs.Parts.{part}
use Rattle.owning.specs.Clauses.{ReduceSmall, Small}
use Rattle.owning.proofs.Owned.{part-entry, part_owned, owned-any}
use Rattle.owning.proofs.Changes.{Falls, Alters, same-falls, credited-same, lent-alters, passed-alters, passed-owned, entry-alters, tokened-held}
use Rattle.owning.proofs.Weaker.{passed-falls}
use Rattle.owning.specs.Messages.{Among, sent-among, leaving-among, leaving_wire, kind}

-- the entries of a record are small
abbrev pub SmallEntries : Room → Type 0
SmallEntries r = (j : ℕ) → j < room_limit → small (entry_at r j).mode ≡ true

-- what is under a small mode is small
under-small : (a b : ℕ) → small b ≡ true → under a b ≡ true → small a ≡ true
under-small a b h u = go (same? a b)
  where
    go : (a ≡ b) ⊎ (a ≢ b) → small a ≡ true
    go (inl e) = rw e h
    go (inr e) = low_small a (omega (arith, (under-small-falls a b h u e).0))

module _ (r s : Room) (k : SmallEntries r) where
  falls-small : Falls r s → SmallEntries s
  falls-small f j l =
      rw (← part-entry s j l) (under-small (part s j) (part r j) (rw (part-entry r j l) (k j l)) (f j (omega arith)))

  alters-small : (x m : ℕ) → Alters r s x m → (x < room_limit → small m ≡ true) → SmallEntries s
  alters-small x m a h j l = rw (← part-entry s j l) (go (same? j x))
    where
      go : (j ≡ x) ⊎ (j ≢ x) → small (part s j) ≡ true
      go (inl e) = rw (e, a.there) (h (omega arith))
      go (inr e) = rw (a.others j (omega arith) e, part-entry r j l) (k j l)

-- what a room owns is small, if its entries are and what it holds
pub owned-small : (r : Room) → SmallEntries r → small r.held ≡ true → small (owned r) ≡ true
owned-small r entries held = owned-either r (λ (m : ℕ). small m ≡ true) held entries

-- other messages: only the new one has to be looked at
small-among : (n : ℕ) (rooms : ℕ → Room) (before after : List Wire) (x : Wire) → Among after before x
    → ((m rest l : ℕ) → x.message ≡ msg.Token m rest l → small rest ≡ true)
    → ReduceSmall x
    → Small n rooms before → Small n rooms after
small-among n rooms before after x among token reduce s =
    record {
      entry = s.entry;
      rest = λ w h m rest l e. ⊎_elim (λ b. s.rest w b m rest l e) (λ b. token m rest l (ap (λ (w : Wire). w.message) (sym b) ∙ e)) (among w h);
      new = λ w h l m e. ⊎_elim (λ b. s.new w b l m e) (λ b. reduce l m (ap (λ (w : Wire). w.message) (sym b) ∙ e)) (among w h);
    }

-- a REQUEST comes or goes
module _ (n : ℕ) (rooms : ℕ → Room) (messages : List Wire) (s : Small n rooms messages) where
  pub small-taken : (k : ℕ) → Small n rooms (remove k messages)
  small-taken k =
      record {
        entry = s.entry;
        rest = λ w h. s.rest w (mem-remove k messages h);
        new = λ w h. s.new w (mem-remove k messages h);
      }

  pub small-request : (a b o m : ℕ) (idle : Bool) → Small n rooms (messages ++ (wire a b (msg.Request o m idle) ∷ []))
  small-request a b o m idle =
      small-among n rooms messages _ (wire a b (msg.Request o m idle)) (sent-among messages (wire a b (msg.Request o m idle)))
      (λ m rest l e. absurd (omega (arith, ap kind e))) (λ l m e. absurd (omega (arith, ap kind e))) s

  -- the REDUCE to an old lender is to none
  small-leaving : (me : ℕ) (r : Room) (a : ℕ) → Small n rooms (messages ++ leaving_sent me r a)
  small-leaving me r a =
      small-among n rooms messages _ (leaving_wire me r) (leaving-among messages me r a)
      (λ m rest l e. absurd (omega (arith, ap kind e)))
      (λ l m e. let k : ◌≡◌ {A = ℕ} 0 m = cc in omega arith)
      s

module _ (n : ℕ) (old new : ℕ → Room) (messages : List Wire) (me : ℕ) (low : me < n) (others : (c : ℕ) → c ≢ me → new c ≡ old c)
    (s : Small n old messages) where
  -- the entries of the room that acts
  entries : SmallEntries (old me)
  entries j l = s.entry me j low l

  -- other records: only the changed one has to be looked at
  small-room : SmallEntries (new me) → Small n new messages
  small-room k = record { entry = λ c j h l. go c j h l (same? c me); rest = s.rest; new = s.new }
    where
      go : (c j : ℕ) → c < n → j < room_limit → (c ≡ me) ⊎ (c ≢ me) → small (entry_at (new c) j).mode ≡ true
      go c j h l (inl e) = rw e (k j l)
      go c j h l (inr e) = rw (others c e) (s.entry c j h l)

  -- held and wanted modes are no entries
  pub small-modes : (h v : ℕ) → new me ≡ with_modes (old me) h v → Small n new messages
  small-modes h v here = small-room (rw here entries)

  -- "settle": the REDUCE is to none or IR
  pub small-settle : (y l : ℕ) → new me ≡ credited (old me) (owned (old me)) → owned (old me) ≤ IR
      → Small n new (messages ++ (wire me y (msg.Reduce l (owned (old me))) ∷ []))
  small-settle y l here weak =
      small-among n new messages _ (wire me y (msg.Reduce l (owned (old me)))) (sent-among messages (wire me y (msg.Reduce l (owned (old me)))))
      (λ m rest l e. absurd (omega (arith, ap kind e)))
      (λ l m e. let k : owned (old me) ≡ m = cc in omega arith)
      (small-room (rw here (falls-small (old me) (credited (old me) (owned (old me))) entries (same-falls _ _ (credited-same (old me) (owned (old me)))))))

  -- a GRANT arrives
  pub small-grant : (k a m l : ℕ) (lender : Option ℕ) → new me ≡ with_debt (with_modes (old me) m 0) lender m l → Small n new (remove k messages ++ leaving_sent me (old me) a)
  small-grant k a m l lender here =
      small-leaving n new (remove k messages) (small-taken n new messages (small-room (rw here entries)) k) me (old me) a

  module _ (fits : n ≤ room_limit) (long : length (old me).entries ≡ room_limit) (y : ℕ) (near : y < n) where
    -- "lend": what is lent is small
    pub small-lend : (m l : ℕ) → can_lend (owned (old me)) m ≡ true → new me ≡ lent_to (old me) y m
        → Small n new (messages ++ (wire me y (msg.Grant m l) ∷ []))
    small-lend m l can here =
        small-among n new messages _ (wire me y (msg.Grant m l)) (sent-among messages (wire me y (msg.Grant m l)))
        (λ m rest l e. absurd (omega (arith, ap kind e))) (λ l m e. absurd (omega (arith, ap kind e)))
        (small-room (rw here (alters-small (old me) (lent_to (old me) y m) entries y m (lent-alters (old me) y long (omega arith) m) (λ h. lends-small (owned (old me)) m can))))

    -- "pass": what the room owns is none, IR or R, and so is what remains
    pub small-pass : (m l : ℕ) → 1 ≤ m → agrees (owned (old me)) m ≡ true → can_lend (owned (old me)) m ≡ false → new me ≡ passed_to (old me) y
        → Small n new (messages ++ (wire me y (msg.Token m (remaining (old me) y) l) ∷ []))
    small-pass m l some agree cannot here =
        small-among n new messages _ (wire me y (msg.Token m (remaining (old me) y) l)) (sent-among messages (wire me y (msg.Token m (remaining (old me) y) l)))
        (λ k rest l e. let q : remaining (old me) y ≡ rest = cc in rw (← q) (low_small (remaining (old me) y) weak))
        (λ l m e. absurd (omega (arith, ap kind e)))
        (small-room (rw here (falls-small (old me) (passed_to (old me) y) entries falls)))
      where
        alters : Alters (old me) (passed_to (old me) y) y none
        alters = passed-alters (old me) y long (omega arith)

        falls : Falls (old me) (passed_to (old me) y)
        falls = passed-falls (old me) y long (omega arith)

        weak : remaining (old me) y ≤ R
        weak = rw (← passed-owned (old me) y long (omega arith)) (owned-any (passed_to (old me) y) (λ (m : ℕ). m ≤ R) (λ i h. go i h (same? i y)))
          where
            go : (i : ℕ) → i ≤ room_limit → (i ≡ y) ⊎ (i ≢ y) → part (passed_to (old me) y) i ≤ R
            go i h (inl e) = rw (e, alters.there) (omega arith)
            go i h (inr e) = rw (alters.others i h e) (omega (arith, part_owned (old me) i h, not-lent-low (owned (old me)) m some agree cannot))

    -- a REDUCE arrives: an entry that falls is none, IR or R
    pub small-reduce : (k l m : ℕ) → k < length messages → get_or messages k no_wire ≡ wire y me (msg.Reduce l m) → new me ≡ reduced (old me) y l m
        → Small n new (remove k messages)
    small-reduce k l m place found here =
        small-taken n new messages (small-room (rw here (reduced-either (old me) y l m SmallEntries (λ e. lowered) (λ e. entries)))) k
      where
        weak : m ≤ R
        weak = omega (arith, s.new (get_or messages k no_wire) (mem-at messages k no_wire place) l m (rw found refl))

        lowered : SmallEntries (set_entry (old me) y (entry_of m l))
        lowered =
            alters-small (old me) (set_entry (old me) y (entry_of m l)) entries y m (entry-alters (old me) y long (omega arith) m l) (λ h. low_small m weak)

    -- a TOKEN arrives: the entry for its sender is what remained there
    pub small-token : (k m rest l : ℕ) → k < length messages → get_or messages k no_wire ≡ wire y me (msg.Token m rest l)
        → new me ≡ tokened_by (old me) me y m rest l → Small n new (remove k messages ++ leaving_sent me (old me) y)
    small-token k m rest l place found here =
        small-leaving n new (remove k messages) (small-taken n new messages (small-room (rw here whole)) k) me (old me) y
      where
        weak : small rest ≡ true
        weak = s.rest (get_or messages k no_wire) (mem-at messages k no_wire place) m rest l (rw found refl)

        whole : SmallEntries (tokened_by (old me) me y m rest l)
        whole =
            alters-small (set_entry (old me) y (entry_of rest l)) (tokened_by (old me) me y m rest l)
            (alters-small (old me) (set_entry (old me) y (entry_of rest l)) entries y rest (entry-alters (old me) y long (omega arith) rest l) (λ h. weak))
            room_limit m (tokened-held (old me) y long (omega arith) me m rest l) (λ h. absurd (omega arith))
