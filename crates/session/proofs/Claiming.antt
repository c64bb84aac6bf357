-- From where a claim finds its result to the session without it.
-- Assumes nothing.
use mathlib.Core.Path.{◌≡◌, sym, ◌∙◌, ap, subst}
use Prim.Native.Nat.{ℕ}
use mathlib.Core.List.{List}
use Rattle.graph.specs.Refusals.{Answer}
use Rattle.graph.specs.Sessions.{Session}
use Rattle.graph.specs.Acceptance.{Claimed, claim, keeping}
use Rattle.graph.proofs.Answers.{Holds, holds_at}
use Rattle.graph.proofs.Validity.{ValidClaim, claim_valid}
use Rattle.flat.specs.Flat.{Flat, flat}
use Rattle.flat.specs.Inner.Nested.{nest}
use Rattle.flat.specs.Inner.Queues.{remove_at}
use Rattle.flat.specs.Inner.FlatEvents.{flat_claim}
use Rattle.flat.proofs.Events.{claim_bridge}
use Rattle.records.proofs.Codecs.{Bytes}
use Rattle.valid.specs.Values.{encode}
use Rattle.valid.specs.Inner.Decoded.{session_of}
use Rattle.state.specs.Inner.State.{flat_in, Shows, with_results}
use Rattle.state.specs.Inner.Results.{taken_at}
use Rattle.state.specs.Inner.ValidImage.{ValidImage}
use Rattle.state.proofs.Serving.{session_held, shows_encode}
use Rattle.graph.specs.declared.refusal.Refusal.{Refusal}
use Rattle.std.specs.Prelude.{Result, Ok, Err}
use Rattle.calls.specs.Inner.Claiming.{FindsFlat}
use Rattle.session.specs.Inner.Claims.{Claimable, Finds}

bridge : (l : ℕ) (image : List ℕ) → ValidImage image → flat_claim l (flat_in image) ≡ claim l (session_of image)
bridge l image v = ap (flat_claim l) (sym v.flat) ∙ claim_bridge l (nest (flat_in image)) ∙ ap (claim l) (sym (session_held image))

pub found : (l : ℕ) (image : List ℕ) → ValidImage image → (c : Result ℕ Refusal) → FindsFlat l (flat_in image) c → Finds l image c
found l image v (Err r) f = sym (bridge l image v) ∙ f
found l image v (Ok p) f = record { within = f.0; taken = sym (bridge l image v) ∙ f.1 }

pub removed : (at : ℕ) (before after : List ℕ) → ValidImage before → Bytes after → Claimable before at → Shows (with_results (flat_in before) (remove_at at (flat_in before).results)) after
    → after ≡ encode (keeping (session_of before) (remove_at at (flat_in before).results))
removed at before after v b some h =
    let c : Claimed = taken_at at (flat_in before).results in
    let s : Session = nest (flat_in before) in
    let u : Session = keeping s c.others in
    let kept : ValidClaim s c = holds_at (subst (λ (x : Answer Claimed). Holds (ValidClaim s) x) (ap (claim some.label) (sym (session_held before)) ∙ some.takes.taken) (claim_valid some.label s v.valid)) in
    let shown : Shows (flat u) after = subst (λ (f : Flat). Shows f after) (sym (ap (λ (f : Flat). with_results f c.others) v.flat)) h in
    shows_encode u after b shown ∙ ap (λ (t : Session). encode (keeping t c.others)) (sym (session_held before))
