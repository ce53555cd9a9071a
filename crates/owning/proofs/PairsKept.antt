-- PAIRS is kept by each change.
use Rattle.std.specs.Prelude.{◌≡◌, refl, ◌≢◌, ◌⊎◌, true, false, List, [], ◌∷◌, ◌++◌, ℕ, ◌≤◌, ◌<◌, length, get_or}
use Rattle.std.proofs.Common.{◌∙◌, ap, inl, inr, arith}
use Rattle.base.specs.Sums.{same?}
use Rattle.base.specs.Lists.{remove, mem-at}
use Rattle.std.specs.Prelude.{Option}
use Rattle.modes.specs.Codes.{none, W}
use Rattle.modes.specs.Modes.{agrees, can_lend}
use Rattle.modes.specs.Under.{under, small}
use Rattle.modes.proofs.Laws.{agrees-sym, agrees-none, under-refl, under-trans, agrees-under, low_small, not-lent-low, under-small-agree}
use Rattle.room.specs.declared.Room.{Room}
use Rattle.room.specs.Limits.{room_limit}
use Rattle.room.specs.Record.{entry_of, with_modes, with_debt, set_entry}
use Rattle.room.specs.Owned.{owned, has_no_entries}
use Rattle.room.specs.Rules.{lent_to, remaining, passed_to, credited, tokened_by, reduced}
use Rattle.table.specs.declared.Wire.{Wire}
use Rattle.table.specs.declared.Message.TheVariants as msg
use Rattle.table.specs.Tables.{no_wire}
use Rattle.facts.specs.Wires.{wire, leaving_sent}
use Rattle.owning.specs.Parts.{part}
use Rattle.owning.specs.Clauses.{ReduceSmall, Agreeing, Pairs}
use Rattle.owning.proofs.Owned.{part-under, agrees-part, entries_none}
use Rattle.owning.proofs.Changes.{Falls, Alters, same-falls, modes-alters, wanted-same, granted-alters, credited-same, lent-alters, passed-owned, reduced-falls, entry-alters, tokened-held}
use Rattle.owning.proofs.Falls.{alters-agreeing}
use Rattle.owning.proofs.Weaker.{hand-back-falls, passed-falls, passed-weaker}
use Rattle.owning.specs.Messages.{kind, Unnamed}
use Rattle.owning.proofs.Covered.{Covered, covered-under}
use Rattle.owning.proofs.Pairs.{TokenFits, token-fits, pairs-taken, pairs-sent, pairs-leaving, pairs-falls, pairs-loan, pairs-unnamed}

module _ (n : ℕ) (old new : ℕ → Room) (messages : List Wire) (me : ℕ) (low : me < n) (others : (c : ℕ) → c ≢ me → new c ≡ old c)
    (p : Pairs n old messages) where
  -- it holds nothing any more
  pub pairs-hand-back : (v : ℕ) → new me ≡ with_modes (old me) none v → Pairs n new messages
  pairs-hand-back v here =
      pairs-falls n old new messages me low others p
      (rw here (hand-back-falls (old me) v))

  -- it wants another mode
  pub pairs-want : (v : ℕ) → new me ≡ with_modes (old me) (old me).held v → Pairs n new messages
  pairs-want v here =
      pairs-falls n old new messages me low others p (rw here (same-falls (old me) (with_modes (old me) (old me).held v) (wanted-same (old me) v)))

  -- it lends itself a mode
  pub pairs-self-loan : (h v : ℕ) → can_lend (owned (old me)) h ≡ true → new me ≡ with_modes (old me) h v → Pairs n new messages
  pairs-self-loan h v can here = pairs-loan n old new messages me low others p room_limit h (rw here (modes-alters (old me) h v)) can

  -- it holds a mode that agrees with its entries
  hold : (h v : ℕ) → new me ≡ with_modes (old me) h v → ((i : ℕ) → i < room_limit → agrees h (part (old me) i) ≡ true)
      → Unnamed me messages → Pairs n new messages
  hold h v here agree unnamed =
      pairs-unnamed n old new messages me low others p
      (rw here (alters-agreeing (old me) (with_modes (old me) h v) (p.room me low) room_limit h (modes-alters (old me) h v) (λ i l ne. agree i (omega arith))))
      unnamed

  -- one that agrees with what it owns
  pub pairs-hold : (h v : ℕ) → agrees h (owned (old me)) ≡ true → Unnamed me messages → new me ≡ with_modes (old me) h v → Pairs n new messages
  pairs-hold h v agree unnamed here =
      hold h v here (λ i l. agrees-part (old me) (p.room me low) h agree i (omega arith)) unnamed

  -- any, where it has no entries
  pub pairs-upgrade : (h v : ℕ) → h ≤ W → has_no_entries (old me) ≡ true → Unnamed me messages → new me ≡ with_modes (old me) h v → Pairs n new messages
  pairs-upgrade h v code free unnamed here =
      hold h v here (λ i l. rw (entries_none (old me) free i l) (agrees-none h (omega arith))) unnamed

  -- "settle"
  pub pairs-settle : (y l m : ℕ) → new me ≡ credited (old me) m → Pairs n new (messages ++ (wire me y (msg.Reduce l m) ∷ []))
  pairs-settle y l m here =
      pairs-sent n new messages
      (pairs-falls n old new messages me low others p (rw here (same-falls (old me) (credited (old me) m) (credited-same (old me) m))))
      (wire me y (msg.Reduce l m)) (λ k rest l e. absurd (omega (arith, ap kind e)))

  -- a GRANT arrives that fits
  pub pairs-grant : (k a m l : ℕ) (lender : Option ℕ) → new me ≡ with_debt (with_modes (old me) m 0) lender m l → under (owned (old me)) m ≡ true → small m ≡ true
      → Unnamed me (remove k messages) → Pairs n new (remove k messages ++ leaving_sent me (old me) a)
  pairs-grant k a m l lender here fits weak unnamed =
      pairs-leaving n new (remove k messages)
      (pairs-unnamed n old new (remove k messages) me low others (pairs-taken n old messages p k) (rw here agreeing) unnamed)
      me (old me) a
    where
      agreeing : Agreeing (with_debt (with_modes (old me) m 0) lender m l)
      agreeing =
          alters-agreeing (old me) (with_debt (with_modes (old me) m 0) lender m l) (p.room me low) room_limit m (granted-alters (old me) lender m l) λ i h ne.
          under-small-agree m (part (old me) i) m weak (under-refl m)
          (under-trans (part (old me) i) (owned (old me)) m (part-under (old me) (p.room me low) i h) fits)

  module _ (fits : n ≤ room_limit) (long : length (old me).entries ≡ room_limit) (y : ℕ) (near : y < n) where
    -- "lend"
    pub pairs-lend : (m l : ℕ) → can_lend (owned (old me)) m ≡ true → new me ≡ lent_to (old me) y m
        → Pairs n new (messages ++ (wire me y (msg.Grant m l) ∷ []))
    pairs-lend m l can here =
        pairs-sent n new messages
        (pairs-loan n old new messages me low others p y m (rw here (lent-alters (old me) y long (omega arith) m)) can)
        (wire me y (msg.Grant m l)) (λ k rest l e. absurd (omega (arith, ap kind e)))

    -- "pass": y, which is covered, gets a mode that agrees with all that the room owns
    pub pairs-pass : (m l : ℕ) → y ≢ me → 1 ≤ m → agrees (owned (old me)) m ≡ true → can_lend (owned (old me)) m ≡ false
        → Covered (old me) (old y) → new me ≡ passed_to (old me) y
        → Pairs n new (messages ++ (wire me y (msg.Token m (remaining (old me) y) l) ∷ []))
    pairs-pass m l other some agree cannot covered here =
        pairs-sent n new messages
        (pairs-falls n old new messages me low others p (rw here falls))
        (wire me y (msg.Token m (remaining (old me) y) l)) token
      where
        falls : Falls (old me) (passed_to (old me) y)
        falls = passed-falls (old me) y long (omega arith)

        agreeing : Agreeing (old me)
        agreeing = p.room me low

        weak : small (owned (old me)) ≡ true
        weak = low_small (owned (old me)) (not-lent-low (owned (old me)) m some agree cannot)

        rest_under : under (remaining (old me) y) (owned (old me)) ≡ true
        rest_under = rw (← passed-owned (old me) y long (omega arith)) (passed-weaker (old me) agreeing y long (omega arith))

        -- every mode of y is under what the room owns
        theirs-under : (i : ℕ) → i ≤ room_limit → under (part (old y) i) (owned (old me)) ≡ true
        theirs-under i h =
            under-trans (part (old y) i) (owned (old y)) (owned (old me)) (part-under (old y) (p.room y near) i h)
            (covered-under (old me) (old y) agreeing covered)

        mode-agrees : (x : ℕ) → under x (owned (old me)) ≡ true → agrees m x ≡ true
        mode-agrees x u = agrees-under x (owned (old me)) m u (agrees-sym m (owned (old me)) ∙ agree)

        token : TokenFits new (wire me y (msg.Token m (remaining (old me) y) l))
        token k rest q e =
            let mode : m ≡ k = cc in
            let left : remaining (old me) y ≡ rest = cc in
            rw (← mode, ← left, others y other) (
              mode-agrees (remaining (old me) y) rest_under,
              λ i h. mode-agrees (part (old y) i) (theirs-under i h),
              λ i h. under-small-agree (remaining (old me) y) (part (old y) i) (owned (old me)) weak rest_under (theirs-under i h),
            )

    -- a REDUCE arrives: it is to none or IR, and so under what it lowers
    pub pairs-reduce : (k l m : ℕ) → ReduceSmall (wire y me (msg.Reduce l m)) → new me ≡ reduced (old me) y l m → Pairs n new (remove k messages)
    pairs-reduce k l m weak here =
        pairs-taken n new messages
        (pairs-falls n old new messages me low others p (rw here (reduced-falls (old me) y long (omega arith) l m (omega (arith, weak l m refl)))))
        k

    -- a TOKEN arrives
    pub pairs-token : (k m rest l : ℕ) → k < length messages → get_or messages k no_wire ≡ wire y me (msg.Token m rest l)
        → new me ≡ tokened_by (old me) me y m rest l → Unnamed me (remove k messages)
        → Pairs n new (remove k messages ++ leaving_sent me (old me) y)
    pairs-token k m rest l place found here unnamed =
        pairs-leaving n new (remove k messages)
        (pairs-unnamed n old new (remove k messages) me low others (pairs-taken n old messages p k) (rw here agreeing) unnamed)
        me (old me) y
      where
        came : TokenFits old (wire y me (msg.Token m rest l))
        came = rw found at (token-fits n old messages p (get_or messages k no_wire) (mem-at messages k no_wire place))

        between : Room
        between = set_entry (old me) y (entry_of rest l)

        entry : Alters (old me) between y rest
        entry = entry-alters (old me) y long (omega arith) rest l

        held : (i : ℕ) → i ≤ room_limit → (i ≡ y) ⊎ (i ≢ y) → agrees m (part between i) ≡ true
        held i h (inl e) = rw (e, entry.there) (came m rest l refl).0
        held i h (inr e) = rw (entry.others i h e) ((came m rest l refl).1 i h)

        agreeing : Agreeing (tokened_by (old me) me y m rest l)
        agreeing =
            alters-agreeing between (tokened_by (old me) me y m rest l)
            (alters-agreeing (old me) between (p.room me low) y rest entry (λ i h ne. (came m rest l refl).2 i h))
            room_limit m (tokened-held (old me) y long (omega arith) me m rest l) (λ i h ne. held i h (same? i y))
