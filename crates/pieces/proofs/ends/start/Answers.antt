-- The image is the fresh session's, and nothing is kept.
-- Assumes nothing.
use mathlib.Core.Path.{◌≡◌, refl, sym, ap, subst, ◌∙◌}
use mathlib.Core.List.{List, []}
use Prim.Native.Nat.{ℕ}
use native.Mathlib.Omega.{arith}
use borrow.Author.Tests.{eq-eqb}
use Rattle.text.specs.Text.{up_to}
use Rattle.graph.specs.Sessions.{fresh}
use Rattle.valid.specs.Values.{encode}
use Rattle.host.specs.Entries.{Called}
use Rattle.pieces.specs.Inner.Frames.{LinesTaken}
use Rattle.pieces.proofs.InputLines.{taken_none}
use Rattle.pieces.proofs.ends.start.Goals as goal

pub returns : goal.returns
unfolding up_to
returns c =
    let new : encode fresh ≡ c.cg_open.new.image = sym (ap (λ (x : Called). x.image) c.cg_open.ensures ∙ rw (eq-eqb _ 4112 c.requires) refl) in
    record {
      taken = λ buffer. record {
        part = [];
        taken = subst (λ (x : List ℕ). LinesTaken (encode fresh) 1 [] x 1 [] []) new (taken_none (encode fresh) 1 []);
        unended = refl;
        kept = (omega arith, refl);
      };
      first = refl;
    }
