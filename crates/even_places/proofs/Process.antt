-- What the process of document 01 makes, by counting (`process-is`): at each turn the next place of a message is as many as all servers
-- took of it in the blocks before, and the servers before in this one. So a query's rows are the counted ones (`rows-by-counting`).
use Prim.Native.Nat.{ℕ, zero, suc, ◌+◌, ◌<◌}
use native.Mathlib.Nat.{zero-add, add-zero, zero-mul, mul-zero, suc-add, add-suc}
use native.Mathlib.Omega.{arith}
use native.Mathlib.Decide.{ℕ_discrete}
use mathlib.Core.Path.{◌≡◌, refl, sym, ap, ◌∙◌, subst}
use mathlib.Core.Logic.{◌≢◌}
use mathlib.Core.List.{List, [], ◌∷◌, ◌++◌, map}
use mathlib.Core.Bool.{Bool}
use mathlib.Core.Option.{none}
use lib.ListN.{length, get_or, replicate, length-set, length-replicate, get_or-replicate}
use lib.Seq.{ext_get_or, get_or-set_same, get_or-set_other}
use Rattle.lists.specs.Ranges.{range}
use Rattle.lists.specs.Sums.{bit, sum, All, all_nil, all_cons}
use Rattle.lists.proofs.Joined.{flat_map-all}
use Rattle.lists.proofs.Mapped.{mapped_at}
use Rattle.lists.proofs.Each.{All-imp}
use Rattle.lists.proofs.Ranges.{All-range}
use Rattle.lists.proofs.Sums.{sum-all, sum-zero}
use Rattle.even_places.specs.Rule.{has, sets, Row, give, next, after, number, afters, join, TurnRows, idle, side_sets, wanted_of}
use Rattle.even_places.specs.Rule.{turn, turned, turns, turns_done, blocks, process, by_set, made_by, rows}
use Rattle.even_places.specs.Counting.{with, used, side_rows, sources, joins, wanted_rows, block, counted_rows}
use Rattle.even_places.proofs.SetLaws.{join-length}
use Rattle.even_places.proofs.Rows.{SetLacks, next-at, after-at, after-length, next-length, afters-length, afters-at}
use Rattle.even_places.proofs.BlockRows.{fresh, starts, starts-length, starts-at, side-is, side_sets-lack, sources-length, used-next, used_over}
use Rattle.even_places.proofs.Others.{others_below}

-- rows that lack k do not look at its next place
module _ (K k b : ℕ) where
  -- two lists of next places that differ at k alone
  Alike : List ℕ → List ℕ → Type 0
  Alike c d = (length c ≡ K) × (length d ≡ K) × ((p : ℕ) → p < K → p ≢ k → get_or c p 0 ≡ get_or d p 0)

  next-alike : (A : List Bool) (c d : List ℕ) → SetLacks K k b A → Alike c d → next A c ≡ next A d
  unfolding Alike give
  next-alike A c d l (lc, ld, same) =
      ext_get_or none (next A c) (next A d) (next-length A c (l.long ∙ sym lc) ∙ sym (next-length A d (l.long ∙ sym ld))) (λ p h.
      next-at A c p (l.long ∙ sym lc) ∙ at p (omega (arith, h, next-length A c (l.long ∙ sym lc), l.long)) (ℕ_discrete p k)
      ∙ sym (next-at A d p (l.long ∙ sym ld)))
    where
      at : (p : ℕ) → p < K → Dec (p ≡ k) → give (has p A) (get_or c p 0) ≡ give (has p A) (get_or d p 0)
      at p h (yes e) = rw (ap (λ q. has q A) e ∙ l.lack)
      at p h (no e) = ap (give (has p A)) (same p h e)

  after-alike : (A : List Bool) (c d : List ℕ) → SetLacks K k b A → Alike c d → Alike (after A c) (after A d)
  unfolding Alike
  after-alike A c d l (lc, ld, same) = (
    after-length A c (l.long ∙ sym lc) ∙ lc,
    after-length A d (l.long ∙ sym ld) ∙ ld,
    λ p h e. after-at A c p (l.long ∙ sym lc) ∙ ap (λ s. bit (has p A) + s) (same p h e) ∙ sym (after-at A d p (l.long ∙ sym ld)),
  )

  number-alike : {L : List (List Bool)} (c d : List ℕ) → All (SetLacks K k b) L → Alike c d → number c L ≡ number d L
  unfolding number
  number-alike c d all_nil s = refl
  number-alike c d (all_cons {x = A} {xs = L} l a) s =
      ap (λ r. r ∷ number (after A c) L) (next-alike A c d l s) ∙ ap (λ rs. next A d ∷ rs) (number-alike (after A c) (after A d) a (after-alike A c d l s))

module _ (N K k : ℕ) (wide : 1 < N) (known : k < K) where
  -- what counting gives server n in block b
  counted : ℕ → ℕ → TurnRows
  counted b n = record { side = side_rows N K k b n; wanted = wanted_rows N K k b n }

  -- c has the next places at server n's turn in block b
  record Ready (b n : ℕ) (c : List ℕ) : Type 0 where
    long : length c ≡ K
    other : (p : ℕ) → p < K → p ≢ k → get_or c p 0 ≡ used N (fresh N K k wide known p) b n
    own : get_or c k 0 ≡ used N (joins N K k) b n

  -- `before` is what counting gives in the block before
  Earlier : ℕ → List TurnRows → Type 0
  Earlier zero before = Unit {0}
  Earlier (suc b) before = before ≡ map (counted b) (range 0 N)

  wanted-of : (b n x : ℕ) (before : List TurnRows) → Earlier b before → n < N
      → wanted_of N K k b before n x ≡ join k x (sources N K k b n)
  unfolding wanted_of join sources Earlier counted
  wanted-of zero n x before e l = refl
  wanted-of (suc b) n x before e l =
      ap (join k x) (flat_map-all (λ m. (get_or before m idle).side) (side_rows N K k b) (All-imp (λ m h. side-of m h) (others_below N n)))
    where
      side-of : (m : ℕ) → m < N → (get_or before m idle).side ≡ side_rows N K k b m
      side-of m h =
          ap (λ (made : List TurnRows). (get_or made m idle).side) e
          ∙ ap (λ (made : TurnRows). made.side) (mapped_at (counted b) idle N m h)

  module _ (b n : ℕ) (before : List TurnRows) (c : List ℕ) (earlier : Earlier b before) (there : n < N) (r : Ready b n c) where
    lacks : All (λ A. length A ≡ K) (side_sets N K k b)
    lacks = All-imp (λ A l. l.long) (side_sets-lack N K k wide known b)

    -- no side row takes a place of k
    own-after : get_or (afters (side_sets N K k b) c) k 0 ≡ used N (joins N K k) b n
    unfolding with bit
    own-after =
        let none-taken : with k (side_sets N K k b) ≡ 0 =
        sum-all (λ A. bit (has k A)) (λ A. 0) (All-imp (λ A l. ap bit l.lack) (side_sets-lack N K k wide known b)) ∙ sum-zero (side_sets N K k b) in
        afters-at K k c r.long lacks ∙ omega (arith, none-taken, r.own)

    turn_is : turn N K k b before n c ≡ counted b n
    unfolding turn counted wanted_rows Alike
    turn_is = ap (λ rs. made rs wanted) side_same ∙ ap (made (side_rows N K k b n)) wanted-same
      where
        made : List Row → List Row → TurnRows
        made s w = record { side = s; wanted = w }

        wanted : List Row
        wanted = wanted_of N K k b before n (get_or (afters (side_sets N K k b) c) k 0)

        wanted-same : wanted ≡ join k (used N (joins N K k) b n) (sources N K k b n)
        wanted-same =
            wanted-of b n (get_or (afters (side_sets N K k b) c) k 0) before earlier there
            ∙ ap (λ x. join k x (sources N K k b n)) own-after

        side_same : number c (side_sets N K k b) ≡ side_rows N K k b n
        side_same =
            number-alike K k (suc b) c (starts N K k wide known b n) (side_sets-lack N K k wide known b)
            (r.long, starts-length N K k wide known b n, λ p h d. r.other p h d ∙ sym (starts-at N K k wide known p b n h))
            ∙ sym (side-is N K k wide known b n)

    -- each turn has as many wanted rows as the next
    wanted-many : length (turn N K k b before n c).wanted ≡ joins N K k b
    unfolding counted wanted_rows
    wanted-many =
        ap (λ (made : TurnRows). length made.wanted) turn_is
        ∙ join-length k (used N (joins N K k) b n) (sources N K k b n)
        ∙ sources-length N K k wide known b n there

    turned-ready : Ready b (suc n) (turned N K k b before n c)
    unfolding turned fresh
    turned-ready =
        record {
          long = length-set done k own ∙ done-long;
          other = λ p h d.
              get_or-set_other done k p own 0 d ∙ afters-at K p c r.long lacks
              ∙ omega (arith, r.other p h d, used-next N (fresh N K k wide known p) b n);
          own =
              get_or-set_same done k own 0 (omega (arith, done-long))
              ∙ omega (arith, own-after, wanted-many, used-next N (joins N K k) b n);
        }
      where
        done : List ℕ
        done = afters (side_sets N K k b) c

        own : ℕ
        own = get_or done k 0 + length (turn N K k b before n c).wanted

        done-long : length done ≡ K
        done-long = afters-length K c r.long lacks

  -- the turns of the servers from n on
  turns-are : (b n count : ℕ) (before : List TurnRows) (c : List ℕ) → Earlier b before → n + count ≡ N → Ready b n c
      → (turns N K k b before n count c ≡ map (counted b) (range n count)) × Ready b N (turns_done N K k b before n count c)
  unfolding turns turns_done range
  turns-are b n zero before c earlier e r = (refl, subst (λ (m : ℕ). Ready b m c) (sym (add-zero n) ∙ e) r)
  turns-are b n (suc count) before c earlier e r =
      let there : n < N = omega (arith, e) in
      let rest =
      turns-are b (suc n) count before (turned N K k b before n c) earlier (suc-add n count ∙ sym (add-suc n count) ∙ e)
      (turned-ready b n before c earlier there r) in (
        ap (λ t. t ∷ turns N K k b before (suc n) count (turned N K k b before n c)) (turn_is b n before c earlier there r)
            ∙ ap (λ ts. counted b n ∷ ts) rest.0,
        rest.1,
      )

  -- after the last server's turn in a block comes the first one's in the next
  over : (b : ℕ) (c : List ℕ) → Ready b N c → Ready (suc b) 0 c
  over b c r =
      record {
        long = r.long;
        other = λ p h d. r.other p h d ∙ sym (used_over N (fresh N K k wide known p) b);
        own = r.own ∙ sym (used_over N (joins N K k) b);
      }

  blocks-are : (b count : ℕ) (before : List TurnRows) (c : List ℕ) → Earlier b before → Ready b 0 c
      → blocks N K k b count before c ≡ map (λ j. map (counted j) (range 0 N)) (range b count)
  unfolding blocks range Earlier
  blocks-are b zero before c earlier r = refl
  blocks-are b (suc count) before c earlier r =
      let t = turns-are b 0 N before c earlier (zero-add N) r in
      ap (λ ts. ts ∷ blocks N K k (suc b) count (turns N K k b before 0 N c) (turns_done N K k b before 0 N c)) t.0
      ∙ ap (λ bs. map (counted b) (range 0 N) ∷ bs)
      (blocks-are (suc b) count (turns N K k b before 0 N c) (turns_done N K k b before 0 N c) t.0 (over b (turns_done N K k b before 0 N c) t.1))

  start : Ready 0 0 (replicate K 0)
  unfolding used sum range
  start =
      record {
        long = length-replicate K 0;
        other = λ p h d. get_or-replicate K p 0 0 h ∙ omega (arith, mul-zero N, zero-mul (fresh N K k wide known p 0));
        own = get_or-replicate K k 0 0 known ∙ omega (arith, mul-zero N, zero-mul (joins N K k 0));
      }

  pub process-is : process N K k
      ≡ map (λ b. map (λ n. record { side = side_rows N K k b n; wanted = wanted_rows N K k b n }) (range 0 N)) (range 0 K)
  unfolding process counted Earlier
  process-is = blocks-are 0 K [] (replicate K 0) tt start

  -- a query lists what the process made for its server
  pub rows-by-counting : (n : ℕ) → n < N → rows N K k n ≡ counted_rows N K k n
  unfolding rows counted_rows block made_by counted
  rows-by-counting n there = flat_map-all _ _ (All-range K (λ b h. ap (listed b) (made_at b h)))
    where
      listed : ℕ → TurnRows → List Row
      listed b made = by_set (sets K (suc b)) (made.side ++ made.wanted)

      made_at : (b : ℕ) → b < K → made_by N K k b n ≡ counted b n
      made_at b h =
          ap (λ (all : List (List TurnRows)). get_or (get_or all b []) n idle) process-is
          ∙ ap (λ (all : List TurnRows). get_or all n idle) (mapped_at (λ b. map (counted b) (range 0 N)) [] K b h)
          ∙ mapped_at (counted b) idle N n there
