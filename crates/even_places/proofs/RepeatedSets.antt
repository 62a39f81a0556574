-- The rows of q times each set, one after another: which place of a message the one numbered r of a set has (`run-of-set`), and which
-- place of the wanted message it gets when these rows are joined (`join-of-set`).
use Prim.Native.Nat.{ℕ, zero, suc, ◌+◌, ◌*◌, ◌-◌, ◌<◌}
use native.Mathlib.Nat.{add-zero, mul-zero, zero-mul, mul-add, suc-mul, mul-suc, not-suc-le-zero}
use native.Mathlib.Omega.{arith}
use mathlib.Core.Path.{◌≡◌, refl, sym, ap, ◌∙◌}
use mathlib.Core.List.{List, [], ◌∷◌, ◌++◌, flat_map}
use mathlib.Core.Bool.{Bool, true, false}
use mathlib.Core.Option.{none, some}
use lib.ListN.{length, get_or, set, replicate, length-replicate, get_or-append}
use Rattle.lists.specs.Sums.{bit, keep, keep_if, sum, All, all_nil, all_cons}
use Rattle.lists.proofs.Keep.{keep_append, keep-nothing}
use Rattle.lists.proofs.Each.{All-imp, All-replicate}
use Rattle.even_places.specs.Rule.{has, Row, give, next, after, number, afters, join, same, of_set, alike}
use Rattle.even_places.specs.Counting.{with}
use Rattle.even_places.proofs.Rows.{Lacks, SetLacks, number-lacks, next-at, after-at, after-length, number-length, afters-length, afters-at}
use Rattle.even_places.proofs.SetLaws.{same_alike, alike-eq, set_of-next, join-append, join-length, join-at, join-same}

-- the part of a list of sets before A
unfoldable pub before_if : Bool → List Bool → List (List Bool) → List (List Bool)
before_if true B r = []
before_if false B r = B ∷ r

unfoldable pub before : List Bool → List (List Bool) → List (List Bool)
unfolding before_if alike
before A [] = []
before A (B ∷ L) = before_if (alike A B) B (before A L)

number_append : (L M : List (List Bool)) (c : List ℕ) → number c (L ++ M) ≡ number c L ++ number (afters L c) M
unfolding number afters
number_append [] M c = refl
number_append (A ∷ L) M c = ap (λ l. next A c ∷ l) (number_append L M (after A c))

module _ (K : ℕ) where
  -- the rows of q times one set: all of that set, the next place of p one more each time
  same-run : (A B : List Bool) (q : ℕ) (c : List ℕ) → length B ≡ K → length c ≡ K → All (λ r. same A r ≡ alike A B) (number c (replicate q B))
  unfolding number
  same-run A B zero c h e = all_nil
  same-run A B (suc q) c h e =
      all_cons (same_alike A (next B c) ∙ ap (alike A) (set_of-next B c (h ∙ sym e))) (same-run A B q (after B c) h (after-length B c (h ∙ sym e) ∙ e))

  run_at : (A : List Bool) (p q r : ℕ) (c : List ℕ) → length A ≡ K → length c ≡ K → has p A ≡ true → r < q
      → get_or (get_or (number c (replicate q A)) r []) p none ≡ some (get_or c p 0 + r)
  unfolding number give bit
  run_at A p zero r c h e g l = absurd (not-suc-le-zero l)
  run_at A p (suc q) zero c h e g l = next-at A c p (h ∙ sym e) ∙ rw (g, add-zero (get_or c p 0))
  run_at A p (suc q) (suc r) c h e g l =
      run_at A p q r (after A c) h (after-length A c (h ∙ sym e) ∙ e) g (omega arith) ∙ ap some (omega (arith, after-at A c p (h ∙ sym e), ap bit g))

  keep-everything : (A : List Bool) {rs : List Row} → All (λ r. same A r ≡ true) rs → of_set A rs ≡ rs
  unfolding of_set keep keep_if
  keep-everything A all_nil = refl
  keep-everything A (all_cons {x = r} {xs = rs} e a) = rw (e, keep-everything A a)

  with-replicate : (p q : ℕ) (A : List Bool) → with p (replicate q A) ≡ q * bit (has p A)
  unfolding with sum
  with-replicate p zero A = sym (zero-mul (bit (has p A)))
  with-replicate p (suc q) A = omega (arith, with-replicate p q A, suc-mul q (bit (has p A)))

  -- among the rows of q times each set, the one numbered r of set A
  pub run-of-set : (A : List Bool) (p q r : ℕ) {L : List (List Bool)} (c : List ℕ) → length c ≡ K → All (λ B. length B ≡ K) L
      → 0 < sum (λ B. bit (alike A B)) L → has p A ≡ true → r < q
      → get_or (get_or (of_set A (number c (flat_map (replicate q) L))) r []) p none ≡ some (get_or c p 0 + q * with p (before A L) + r)
  unfolding flat_map sum bit before with number of_set
  run-of-set A p q r c e all_nil m g l = absurd (omega arith)
  run-of-set A p q r c e (all_cons {x = B} {xs = L} h a) m g l =
      ap (λ s. get_or (get_or s r []) p none)
      (ap (keep (same A)) (number_append (replicate q B) (flat_map (replicate q) L) c)
      ∙ keep_append (same A) (number c (replicate q B)) (number c' (flat_map (replicate q) L)))
      ∙ go (alike A B) refl m (λ m'. run-of-set A p q r c' e' a m' g l)
    where
      c' : List ℕ
      c' = afters (replicate q B) c

      e' : length c' ≡ K
      e' = afters-length K c e (All-replicate q B h)

      rest : List Row
      rest = keep (same A) (number c' (flat_map (replicate q) L))

      run : {t : Bool} → alike A B ≡ t → All (λ s. same A s ≡ t) (number c (replicate q B))
      run f = All-imp (λ s d. d ∙ f) (same-run A B q c h e)

      go : (t : Bool) → alike A B ≡ t → 0 < bit t + sum (λ D. bit (alike A D)) L
          → (0 < sum (λ D. bit (alike A D)) L → get_or (get_or rest r []) p none ≡ some (get_or c' p 0 + q * with p (before A L) + r))
          → get_or (get_or (keep (same A) (number c (replicate q B)) ++ rest) r []) p none ≡ some (get_or c p 0 + q * with p (before_if t B (before A L)) + r)
      go true f m' ih =
          ap (λ s. get_or (get_or (s ++ rest) r []) p none) (keep-everything A (run f))
          ∙ ap (λ s. get_or s p none)
          (get_or-append (number c (replicate q B)) rest [] r (omega (arith, number-length c (replicate q B), length-replicate q B)))
          ∙ run_at B p q r c h e (ap (has p) (sym (alike-eq A B f)) ∙ g) l
          ∙ ap some (omega (arith, mul-zero q))
      go false f m' ih =
          ap (λ s. get_or (get_or (s ++ rest) r []) p none) (keep-nothing (same A) (run f))
          ∙ ih (omega arith)
          ∙ ap some (omega (arith, afters-at K p c e (All-replicate q B h), with-replicate p q B, mul-add q (bit (has p B)) (with p (before A L))))

module _ (K k b : ℕ) (known : k < K) where
  -- the place of k in the row numbered r of set A, joined from the rows of q times each set
  pub join-of-set : (A : List Bool) (x q r : ℕ) {L : List (List Bool)} (c : List ℕ) → length c ≡ K → All (SetLacks K k b) L
      → 0 < sum (λ B. bit (alike (set A k false) B)) L → has k A ≡ true → r < q
      → get_or (get_or (of_set A (join k x (number c (flat_map (replicate q) L)))) r []) k none ≡ some (x + q * length (before (set A k false) L) + r)
  unfolding flat_map sum bit before number of_set
  join-of-set A x q r c e all_nil m g l = absurd (omega arith)
  join-of-set A x q r c e (all_cons {x = B} {xs = L} h a) m g l =
      ap (λ s. get_or (get_or s r []) k none)
      (ap (λ s. keep (same A) (join k x s)) (number_append (replicate q B) (flat_map (replicate q) L) c)
      ∙ ap (keep (same A)) (join-append k x R (number c' (flat_map (replicate q) L)))
      ∙ keep_append (same A) (join k x R) (join k (x + length R) (number c' (flat_map (replicate q) L))))
      ∙ go (alike A' B) refl m (λ m'. join-of-set A (x + length R) q r c' e' a m' g l)
    where
      A' : List Bool
      A' = set A k false

      R : List Row
      R = number c (replicate q B)

      c' : List ℕ
      c' = afters (replicate q B) c

      e' : length c' ≡ K
      e' = afters-length K c e (All-replicate q B h.long)

      rest : List Row
      rest = keep (same A) (join k (x + length R) (number c' (flat_map (replicate q) L)))

      lacks : All (Lacks K k b) R
      lacks = number-lacks K k b c e (All-replicate q B h)

      size : length R ≡ q
      size = number-length c (replicate q B) ∙ length-replicate q B

      run : (t : Bool) → alike A' B ≡ t → All (λ s. same A s ≡ t) (join k x R)
      run t f = join-same K k b known A t x g lacks (All-imp (λ s d. d ∙ f) (same-run K A' B q c h.long e))

      go : (t : Bool) → alike A' B ≡ t → 0 < bit t + sum (λ D. bit (alike A' D)) L
          → (0 < sum (λ D. bit (alike A' D)) L → get_or (get_or rest r []) k none ≡ some (x + length R + q * length (before A' L) + r))
          → get_or (get_or (keep (same A) (join k x R) ++ rest) r []) k none ≡ some (x + q * length (before_if t B (before A' L)) + r)
      go true f m' ih =
          ap (λ s. get_or (get_or (s ++ rest) r []) k none) (keep-everything K A (run true f))
          ∙ ap (λ s. get_or s k none) (get_or-append (join k x R) rest [] r (omega (arith, join-length k x R, size)))
          ∙ join-at K k b known x r lacks (omega (arith, size))
          ∙ ap some (omega (arith, mul-zero q))
      go false f m' ih =
          ap (λ s. get_or (get_or (s ++ rest) r []) k none) (keep-nothing (same A) (run false f))
          ∙ ih (omega arith)
          ∙ ap some (omega (arith, size, mul-suc q (length (before A' L))))
