-- What a value keeps of numbers: place by place, as a loop reads the lines (`Taken`, with `taken-first`, `taken_more`, `taken-past`, and `taken_refused` or
-- `taken-all` at its end).
use mathlib.Core.Path.{◌≡◌, refl, sym, ap, ◌∙◌}
use mathlib.Core.Bool.{Bool, true, false}
use mathlib.Core.List.{List, [], ◌∷◌, ◌++◌, append-nil}
use Prim.Native.Nat.{ℕ, zero, suc, ◌+◌, ◌-◌, ◌≤◌, ◌<◌}
use native.Mathlib.Omega.{arith}
use borrow.Author.Tests.{ltb-true, ltb-false, lt-ltb}
use lib.Dec.{ltb}
use lib.ListN.{length, take, set, replicate, length-append, length-replicate}
use lib.Seq.{length-take-le, take_all, take-append-le, append_snoc, set_at, set_out}
use Rattle.lists.specs.Padded.{padded}
use Rattle.std.specs.Prelude.{Option, Some, None}
use Rattle.text_lines.specs.declared.Line.{Line}
use Rattle.text_lines.specs.Lines.{line_of, number_line}
use Rattle.lengths.specs.declared.Lengths.{Lengths}
use Rattle.lengths.specs.Lengths.{length_places, no_lengths}
use Rattle.length_text.specs.LengthLines.{length_name, length_digits, kept, in_front, numbers_at, lines, kept_lines}

-- ---- the places

-- one number more: it has a place, or it comes behind all
room-more : (size : ℕ) (ns : List ℕ) (n : ℕ) → length ns < size → set (padded size ns) (length ns) n ≡ padded size (ns ++ (n ∷ []))
room-more size ns n h =
    let left = size - suc (length ns) in
    let one : size - length ns ≡ suc left = omega arith in
    let same : size - length (ns ++ (n ∷ [])) ≡ left = omega (arith, length-append ns (n ∷ [])) in
    ap (λ (m : ℕ). set (ns ++ replicate m 0) (length ns) n) one
    ∙ set_at ns 0 (replicate left 0) n (length ns) refl
    ∙ sym (ap (λ (m : ℕ). (ns ++ (n ∷ [])) ++ replicate m 0) same ∙ append_snoc ns n (replicate left 0))

padded-length : (size : ℕ) (ns : List ℕ) → length ns ≤ size → length (padded size ns) ≡ size
padded-length size ns h =
    omega (arith, length-append ns (replicate (size - length ns) 0), length-replicate {A = ℕ} (size - length ns) 0)

pub place-more : (size : ℕ) (ns : List ℕ) (n : ℕ)
    → set (padded size (take size ns)) (length ns) n ≡ padded size (take size (ns ++ (n ∷ [])))
place-more size ns n = go (ltb (length ns) size) refl
  where
    go : (t : Bool) → ltb (length ns) size ≡ t → set (padded size (take size ns)) (length ns) n ≡ padded size (take size (ns ++ (n ∷ [])))
    go true e =
        let h = ltb-true (length ns) size e in
        ap (λ (l : List ℕ). set (padded size l) (length ns) n) (take_all size ns (omega arith))
        ∙ room-more size ns n h
        ∙ ap (padded size) (sym (take_all size (ns ++ (n ∷ [])) (omega (arith, length-append ns (n ∷ [])))))
    go false e =
        let h = ltb-false (length ns) size e in
        let long = length-take-le size ns h in
        set_out (padded size (take size ns)) (length ns) n (omega (arith, padded-length size (take size ns) (omega arith)))
        ∙ ap (padded size) (sym (take-append-le size ns (n ∷ []) h))

-- the mark says whether there are numbers
pub kept-many : (ns : List ℕ) (count : ℕ) → length ns ≡ count → kept ns ≡ record { given = ltb 0 count; places = padded length_places (take length_places ns) }
unfolding kept no_lengths
kept-many [] count e = rw (sym e)
kept-many (n ∷ ns) count e =
    ap (λ (t : Bool). record { given = t; places = padded length_places (take length_places (n ∷ ns)) }) (sym (lt-ltb 0 count (omega (arith, e))))

-- ---- line by line

-- numbers in front of those that follow
abbrev pub ahead : List ℕ → Option (Line (List ℕ)) → Option (Line (List ℕ))
ahead ns (Some found) = Some (line_of (ns ++ found.value) found.next)
ahead ns None = None

ahead-nil : (found : Option (Line (List ℕ))) → ahead [] found ≡ found
ahead-nil (Some found) = refl
ahead-nil None = refl

ahead_more : (ns : List ℕ) (n : ℕ) (found : Option (Line (List ℕ))) → ahead ns (in_front n found) ≡ ahead (ns ++ (n ∷ [])) found
ahead_more ns n (Some found) = ap (λ (l : List ℕ). Some (line_of l found.next)) (sym (append_snoc ns n found.value))
ahead_more ns n None = refl

-- of `count` lines at a place, i are read: the next begins at `next`, and the places hold their numbers
pub record Taken (count : ℕ) (text : List ℕ) (at i next : ℕ) (places : List ℕ) : Type 0 where
  pub ns : List ℕ
  pub left : ℕ
  pub many : length ns ≡ i
  pub together : i + left ≡ count
  pub places-are : places ≡ padded length_places (take length_places ns)
  pub rest : numbers_at count text at ≡ ahead ns (numbers_at left text next)

pub taken-first : (count : ℕ) (text : List ℕ) (at : ℕ) → Taken count text at 0 at (replicate length_places 0)
taken-first count text at =
    record { ns = []; left = count; many = refl; together = omega arith; places-are = refl; rest = sym (ahead-nil (numbers_at count text at)) }

module _ (count : ℕ) (text : List ℕ) (at i next : ℕ) (places : List ℕ) (taken : Taken count text at i next places) where
  -- there is a line that is not read yet
  one_left : i < count → (left : ℕ) × (i + 1 + left ≡ count) × (numbers_at count text at ≡ ahead taken.ns (numbers_at (suc left) text next))
  one_left h = go taken.left taken.together taken.rest
    where
      go : (left : ℕ) → i + left ≡ count → numbers_at count text at ≡ ahead taken.ns (numbers_at left text next)
          → (left : ℕ) × (i + 1 + left ≡ count) × (numbers_at count text at ≡ ahead taken.ns (numbers_at (suc left) text next))
      go zero e f = absurd (let w : ⊥ = omega arith in w)
      go (suc left) e f = (left, omega arith, f)

  pub taken_more : (n end : ℕ) → i < count → number_line length_digits length_name text next ≡ Some (line_of n end)
      → Taken count text at (i + 1) end (set places i n)
  unfolding numbers_at
  taken_more n end h line =
      let ns = taken.ns in
      let l = one_left h in
      let first : numbers_at (suc l.0) text next ≡ in_front n (numbers_at l.0 text end) = rw line in
      record {
        ns = ns ++ (n ∷ []);
        left = l.0;
        many = omega (arith, length-append ns (n ∷ []), taken.many);
        together = l.1;
        places-are =
            ap (λ (p : List ℕ). set p i n) taken.places-are
            ∙ ap (λ (m : ℕ). set (padded length_places (take length_places ns)) m n) (sym taken.many)
            ∙ place-more length_places ns n;
        rest = l.2 ∙ ap (ahead ns) first ∙ ahead_more ns n (numbers_at l.0 text end);
      }

  -- behind the places nothing changes
  pub taken-past : (n : ℕ) → length_places ≤ i → set places i n ≡ places
  taken-past n h =
      let first = take length_places taken.ns in
      let long = length-take-le length_places taken.ns (omega (arith, taken.many)) in
      set_out places i n (omega (arith, ap length taken.places-are, padded-length length_places first (omega arith)))

  pub taken_refused : i < count → number_line length_digits length_name text next ≡ None → kept_lines (numbers_at count text at) ≡ None
  unfolding numbers_at
  taken_refused h line =
      let l = one_left h in
      let first : numbers_at (suc l.0) text next ≡ None = rw line in
      ap kept_lines (l.2 ∙ ap (ahead taken.ns) first)

  pub taken-all : count ≤ i → kept_lines (numbers_at count text at) ≡ Some (lines (record { given = ltb 0 count; places = places }) next)
  unfolding numbers_at
  taken-all h =
      let ns = taken.ns in
      let over : taken.left ≡ 0 = omega (arith, taken.together) in
      let whole : numbers_at count text at ≡ Some (line_of ns next) =
      taken.rest ∙ ap (λ (left : ℕ). ahead ns (numbers_at left text next)) over ∙ ap (λ (l : List ℕ). Some (line_of l next)) (append-nil ns) in
      ap kept_lines whole
      ∙ ap (λ (l : Lengths). Some (lines l next))
      (kept-many ns count (omega (arith, taken.many, taken.together))
      ∙ ap (λ (p : List ℕ). record { given = ltb 0 count; places = p }) (sym taken.places-are))
