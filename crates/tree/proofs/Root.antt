-- The root: the room that has the token or to which it is under way. There is one, since there is one token.
use Rattle.std.specs.Prelude.{◌≡◌, ◌⊎◌, ◌≢◌, Bool, true, false, List, [], ◌∷◌, ℕ, ◌≤◌, ◌<◌}
use Rattle.std.proofs.Common.{sym, ◌∙◌, ap, inl, inr, ⊎_elim, arith}
use mathlib.Core.List.Memᴰ
use Rattle.base.specs.Tests.{clash}
use Rattle.base.specs.Sums.{one}
use Rattle.base.specs.Lists.{Mem, total, count, mem-total}
use Rattle.room.specs.declared.Room.{Room}
use Rattle.table.specs.declared.Wire.{Wire}
use Rattle.table.specs.Formed.{is_token, tokens}
use Rattle.facts.specs.Tokens.{token-somewhere, holder-alone, holder-quiet, carried-tokenless}
use Rattle.tree.specs.Tree.{NoTokenTo}

-- no other room has the token, and to none it is under way
pub record Root (n : ℕ) (rooms : ℕ → Room) (messages : List Wire) (r : ℕ) : Type 0 where
  pub tokenless : (c : ℕ) → c < n → c ≢ r → (rooms c).token ≡ false
  pub untold : (c : ℕ) → c < n → c ≢ r → NoTokenTo c messages

-- where at most one element passes a test two that pass it are the same
list-sole : {A : Type 0} (p : A → Bool) (l : List A) → count p l ≤ 1 → (a b : A) → Mem a l → Mem b l → p a ≡ true → p b ≡ true → a ≡ b
unfolding total
list-sole p [] h a b m k s t = absurd (Memᴰ.not-nil m)
list-sole {A} p (x ∷ l) h a b m k s t = go (Memᴰ.cases_cons m) (Memᴰ.cases_cons k) (λ i j. list-sole p l (omega arith) a b i j s t)
  where
    only : (c : A) → p c ≡ true → Mem c l → (d : A) → p d ≡ true → d ≡ x → a ≡ b
    only c u i d v e = absurd (omega (arith, mem-total (λ y. one (p y)) i, ap one u, ap one v, ap (λ (y : A). one (p y)) e))

    go : (a ≡ x) ⊎ Mem a l → (b ≡ x) ⊎ Mem b l → (Mem a l → Mem b l → a ≡ b) → a ≡ b
    go (inl d) (inl e) r = d ∙ sym e
    go (inl d) (inr j) r = only b t j a s d
    go (inr i) (inl e) r = only a s i b t e
    go (inr i) (inr j) r = r i j

module _ (n : ℕ) (rooms : ℕ → Room) (messages : List Wire) (sole : tokens n rooms messages ≤ 1) where
  -- there is no second TOKEN
  pub token-sole : (w v : Wire) → Mem w messages → Mem v messages → is_token w.message ≡ true → is_token v.message ≡ true → w ≡ v
  unfolding tokens
  token-sole w v m k s t = list-sole (λ w. is_token w.message) messages (omega arith) w v m k s t

  -- a room that has the token is the root
  pub holder-root : (r : ℕ) → r < n → (rooms r).token ≡ true → Root n rooms messages r
  holder-root r low with =
      record {
        tokenless = holder-alone n rooms messages sole r low with;
        untold = λ c h ne w m q. clash q (holder-quiet n rooms messages sole r low with w m);
      }

  -- while the token is under way its receiver is the root
  pub receiver-root : (w : Wire) → Mem w messages → is_token w.message ≡ true → Root n rooms messages w.to
  receiver-root w m is =
      record {
        tokenless = λ c h ne. carried-tokenless n rooms messages sole w m is c h;
        untold = λ c h ne v k q e. ne (sym e ∙ ap (λ (w : Wire). w.to) (token-sole v w k m q is));
      }

-- there is a root
pub rooted : (n : ℕ) (rooms : ℕ → Room) (messages : List Wire) → tokens n rooms messages ≡ 1 → ((w : Wire) → Mem w messages → w.to < n)
    → (r : ℕ) × (r < n) × Root n rooms messages r
rooted n rooms messages sole low =
    ⊎_elim
    (λ f. (f.0, f.1, holder-root n rooms messages (omega arith) f.0 f.1 f.2))
    (λ f. (f.0.to, low f.0 f.1, receiver-root n rooms messages (omega arith) f.0 f.1 f.2))
    (token-somewhere n rooms messages (omega arith))
