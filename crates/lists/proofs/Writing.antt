-- `Pending`, the invariant of a loop that writes from left to right: what is left to write decides what the buffer will hold. It holds
-- at first (`pending-start`), byte by byte and part by part (`pending-byte`, `pending-part`), and at the end gives the buffer (`pending_done`).
use mathlib.Core.Path.{◌≡◌, refl, sym, ◌∙◌}
use mathlib.Core.List.{List, [], ◌∷◌, ◌++◌}
use Prim.Native.Nat.{ℕ, ◌+◌, ◌≤◌}
use native.Mathlib.Omega.{arith}
use native.Mathlib.Numerals.{add-one}
use lib.ListN.{length, set, length-set, length-append}
use Rattle.lists.specs.Parts.{put}
use Rattle.lists.proofs.Puts.{put-length, put-nil, put-cons, put-put}

-- `left` is still to be written into `out` from `end` on, where in all `bytes` are to be written into `buffer` from `at` on
pub record Pending (at : ℕ) (bytes buffer : List ℕ) (end : ℕ) (left out : List ℕ) : Type 0 where
  pub long : length out ≡ length buffer
  pub room : end + length left ≤ length out
  pub ends : end + length left ≡ at + length bytes
  pub same : put end left out ≡ put at bytes buffer

module _ {at : ℕ} {bytes buffer : List ℕ} where
  pub pending-start : at + length bytes ≤ length buffer → Pending at bytes buffer at bytes buffer
  pending-start h = record { long = refl; room = h; ends = refl; same = refl }

  -- one byte, or several, are written
  pub pending-byte : {end x : ℕ} {left out : List ℕ} → Pending at bytes buffer end (x ∷ left) out → Pending at bytes buffer (end + 1) left (set out end x)
  pending-byte {end} {x} {left} {out} p = record {
    long = length-set out end x ∙ p.long;
    room = rw (length-set out end x) (omega (arith, p.room));
    ends = omega (arith, p.ends);
    same = rw (add-one end, ← put-cons end x left out (omega (arith, p.room))) p.same;
  }

  pub pending-part : {end : ℕ} (front left : List ℕ) {out : List ℕ} → Pending at bytes buffer end (front ++ left) out
      → Pending at bytes buffer (end + length front) left (put end front out)
  pending-part {end} front left {out} p =
      let many = length-append front left in
      let inside : end + length front ≤ length out = omega (arith, p.room) in
      record {
        long = put-length end front out inside ∙ p.long;
        room = rw (put-length end front out inside) (omega (arith, p.room));
        ends = omega (arith, p.ends);
        same = put-put end front left out (omega arith) ∙ p.same;
      }

  pub pending-as : {end end' : ℕ} {left left' out out' : List ℕ} → end' ≡ end → left' ≡ left → out' ≡ out
      → Pending at bytes buffer end left out → Pending at bytes buffer end' left' out'
  pending-as e f g p = rw (e, f, g) p

  -- nothing is left
  pub pending-ends : {end : ℕ} {out : List ℕ} → Pending at bytes buffer end [] out → end ≡ at + length bytes
  pending-ends p = omega (arith, p.ends)

  pub pending_done : {end : ℕ} {out : List ℕ} → Pending at bytes buffer end [] out → out ≡ put at bytes buffer
  pending_done {end} {out} p = sym (put-nil end out) ∙ p.same
