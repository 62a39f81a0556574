-- `even_query::query` meets its contract: the entries for the messages and places of the rule are the scheme's query.
use mathlib.Core.Path.{ap, ◌∙◌}
use mathlib.Core.List.{List}
use Prim.Native.Nat.{ℕ, ◌*◌}
use native.Mathlib.Omega.{arith}
use Rattle.lists.specs.Parts.{put}
use Rattle.even_query.proofs.Whole.{places-length, messages-front, places-front, keyed, entries-are}
use Rattle.even_query.proofs.query.Goals as goal

pub look_up-requires : goal.look_up-requires
look_up-requires c = let a = c.args in
    let many = ap (λ (x : ℕ). a.k * x) c.power.ensures in
    let messages = messages-front a.n a.k a.wanted a.server c.requires.0 many c.positions-messages.ensures in
    let places = places-front a.n a.k a.wanted a.server c.requires.0 many c.places-places.ensures in (
      rw (c.power-2.ensures, messages, places) (keyed a.n a.k a.wanted a.server c.requires.0 a.key.now c.requires.1),
      rw places (omega (arith, places-length a.n a.k a.wanted a.server c.requires.0, c.requires.2)),
    )

pub returns : goal.returns
returns c = let a = c.args in
    let many = ap (λ (x : ℕ). a.k * x) c.power.ensures in
    let messages = messages-front a.n a.k a.wanted a.server c.requires.0 many c.positions-messages.ensures in
    let places = places-front a.n a.k a.wanted a.server c.requires.0 many c.places-places.ensures in
    rw (c.power-2.ensures, messages, places) at c.look_up.ensures
    ∙ ap (λ (l : List ℕ). put 0 l a.out.now) (entries-are a.n a.k a.wanted a.server c.requires.0 a.key.now)
