-- A room's record with one part changed is as it should be, if the new part is.
use Rattle.std.specs.Prelude.{◌≡◌, ◌≢◌, ◌⊎◌, Bool, true, false, ℕ, ◌≤◌, ◌<◌, eqb, length}
use Rattle.std.proofs.Math.Path.{refl, sym}
use Rattle.std.proofs.Common.{inl, inr, arith, get_or-set_same, get_or-set_other}
use Rattle.std.proofs.lemmas.Bool.{false≢true, eqb-false}
use Rattle.base.specs.Choice.{by-test}
use Rattle.base.specs.Tests.{clash}
use Rattle.base.specs.Sums.{same?}
use Rattle.std.specs.Prelude.{Option, Some, None, unwrap_or}
use Rattle.std.proofs.lemmas.Option.{none-some, same_Some}
use Rattle.modes.specs.Codes.{U, W}
use Rattle.room.specs.declared.Room.{Room}
use Rattle.room.specs.Limits.{room_limit}
use Rattle.room.specs.Record.{no_entry, entry_of, entry_at, with_modes, with_token, with_debt, with_counter, set_entry}
use Rattle.facts.specs.Rooms.{EntryFacts, RoomFacts}

-- what concerns the modes alone
record ModeFacts (held wanted : ℕ) : Type 0 where
  held-code : held ≤ W
  wanted-code : wanted ≤ W
  upgrade : held ≢ 0 → wanted ≢ 0 → (held ≡ U) × (wanted ≡ W)

-- where the token is, seen from room c of n
record TowardFacts (n c toward : ℕ) (token : Bool) : Type 0 where
  toward-low : toward < n
  toward-token : toward ≡ c → token ≡ true
  token-toward : token ≡ true → toward ≡ c

-- what room c of n owes
record DebtFacts (n c : ℕ) (lender : Option ℕ) (credit link : ℕ) : Type 0 where
  credit-code : credit ≤ W
  lender-low : lender ≢ None → unwrap_or lender 255 < n
  lender-other : lender ≢ Some c
  unlinked : lender ≡ None → link ≡ 0
  nobody-none : lender ≡ None → credit ≡ 0
  none-nobody : credit ≡ 0 → lender ≡ None

-- a record is as it should be by its parts, and by what ties the token to the lender and to the held mode
joined : {n c : ℕ} (r : Room) → ModeFacts r.held r.wanted → TowardFacts n c r.toward r.token
    → DebtFacts n c r.lender r.credit r.link → (r.token ≡ true → r.lender ≡ None) → (r.held ≡ U → r.token ≡ true)
    → (r.held ≡ W → r.token ≡ true) → ((j : ℕ) → j < room_limit → EntryFacts n c j (entry_at r j)) → RoomFacts n c r
joined r modes toward debt free with_u with_w entries =
    record {
      held-code = modes.held-code;
      wanted-code = modes.wanted-code;
      credit-code = debt.credit-code;
      toward-low = toward.toward-low;
      lender-low = debt.lender-low;
      toward-token = toward.toward-token;
      token-toward = toward.token-toward;
      lender-other = debt.lender-other;
      unlinked = debt.unlinked;
      nobody-none = debt.nobody-none;
      none-nobody = debt.none-nobody;
      token-free = free;
      U-token = with_u;
      W-token = with_w;
      upgrade = modes.upgrade;
      entry = entries;
    }

module _ (n c : ℕ) (r : Room) (f : RoomFacts n c r) where
  -- the parts of the record as it was
  modes : ModeFacts r.held r.wanted
  modes = record { held-code = f.held-code; wanted-code = f.wanted-code; upgrade = f.upgrade }

  toward : TowardFacts n c r.toward r.token
  toward = record { toward-low = f.toward-low; toward-token = f.toward-token; token-toward = f.token-toward }

  debt : DebtFacts n c r.lender r.credit r.link
  debt =
      record {
        credit-code = f.credit-code;
        lender-low = f.lender-low;
        lender-other = f.lender-other;
        unlinked = f.unlinked;
        nobody-none = f.nobody-none;
        none-nobody = f.none-nobody;
      }

  -- another held and another wanted mode
  pub modes-facts : (h w : ℕ) → h ≤ W → w ≤ W → (h ≡ U → r.token ≡ true) → (h ≡ W → r.token ≡ true)
      → (h ≢ 0 → w ≢ 0 → (h ≡ U) × (w ≡ W)) → RoomFacts n c (with_modes r h w)
  modes-facts h w held-code wanted-code U-token W-token upgrade =
      joined (with_modes r h w) (record { held-code = held-code; wanted-code = wanted-code; upgrade = upgrade }) toward debt f.token-free U-token W-token
      f.entry

  -- another counter
  pub counter-facts : (k : ℕ) → RoomFacts n c (with_counter r k)
  counter-facts k = joined (with_counter r k) modes toward debt f.token-free f.U-token f.W-token f.entry

  -- no lender
  pub free-facts : c < n → n ≤ room_limit → RoomFacts n c (with_debt r None 0 0)
  free-facts low small = joined (with_debt r None 0 0) modes toward none (λ e. refl) f.U-token f.W-token f.entry
    where
      none : DebtFacts n c None 0 0
      none =
          record {
            credit-code = omega arith;
            lender-low = λ e. absurd (e refl);
            lender-other = λ e. none-some _ e;
            unlinked = λ e. refl;
            nobody-none = λ e. refl;
            none-nobody = λ e. refl;
          }

  -- a lender, for a room without the token
  pub owing-facts : (l m k : ℕ) → n ≤ room_limit → l < n → l ≢ c → 1 ≤ m → m ≤ W → r.token ≡ false → RoomFacts n c (with_debt r (Some l) m k)
  owing-facts l m k small low other some code without =
      joined (with_debt r (Some l) m k) modes toward owed (λ e. clash e without) f.U-token f.W-token f.entry
    where
      owed : DebtFacts n c (Some l) m k
      owed =
          record {
            credit-code = code;
            lender-low = λ e. low;
            lender-other = λ e. other (same_Some _ _ e);
            unlinked = λ e. absurd (none-some _ (sym e));
            nobody-none = λ e. absurd (none-some _ (sym e));
            none-nobody = λ e. absurd (omega arith);
          }

  -- the token, for a room without a lender
  pub gained-facts : c < n → r.lender ≡ None → RoomFacts n c (with_token r true c)
  gained-facts low free =
      joined (with_token r true c) modes (record { toward-low = low; toward-token = λ e. refl; token-toward = λ e. refl }) debt (λ e. free) (λ e. refl)
      (λ e. refl) f.entry

  -- the token gone to room t, from a room that holds neither U nor W
  pub lost-facts : (t : ℕ) → t < n → t ≢ c → r.held ≢ U → r.held ≢ W → RoomFacts n c (with_token r false t)
  lost-facts t low other no_u no_w =
      joined (with_token r false t) modes away debt (λ e. absurd (false≢true e)) (λ e. absurd (no_u e)) (λ e. absurd (no_w e)) f.entry
    where
      away : TowardFacts n c t false
      away = record { toward-low = low; toward-token = λ e. absurd (other e); token-toward = λ e. absurd (false≢true e) }

  -- another entry, for another room of the n
  pub entry-set-facts : (y m l : ℕ) → n ≤ room_limit → length r.entries ≡ room_limit → y < n → y ≢ c → m ≤ W
      → RoomFacts n c (set_entry r y (entry_of m l))
  unfolding entry_of
  entry-set-facts y m l small long low other code =
      joined (set_entry r y (entry_of m l)) modes toward debt f.token-free f.U-token f.W-token (λ j b. entry j b (same? j y))
    where
      new : EntryFacts n c y (entry_of m l)
      new =
          by-test (EntryFacts n c y) (eqb m 0) no_entry (record { mode = m; link = l })
          (λ e. record { code = omega arith; unlinked = λ k. refl; outside = λ k. refl; own = λ k. refl })
          (λ e. record { code = code; unlinked = λ k. absurd (eqb-false m 0 e k); outside = λ k. absurd (omega arith); own = λ k. absurd (other k) })

      entry : (j : ℕ) → j < room_limit → (j ≡ y) ⊎ (j ≢ y) → EntryFacts n c j (entry_at (set_entry r y (entry_of m l)) j)
      entry j b (inl e) = rw (e, get_or-set_same r.entries y (entry_of m l) no_entry (omega arith)) new
      entry j b (inr e) = rw (get_or-set_other r.entries y j (entry_of m l) no_entry e) (f.entry j b)
