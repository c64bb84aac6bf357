-- Each answer is a case of `Lists`.
-- Assumes nothing.
use mathlib.Core.Path.{refl}
use native.Mathlib.Omega.{arith}
use Rattle.std.proofs.lemmas.Result.{err_from_is_err_and}
use Rattle.calls.proofs.Refusing.{refusal_some}
use Rattle.host.proofs.Entering.{tested_refused, tested_session, session_valid}
use Rattle.host.proofs.Listing.{no_room, is_listed}
use Rattle.host.proofs.list.list.Goals as goal

pub returns-in_err-image_refusal : goal.returns-in_err-image_refusal
returns-in_err-image_refusal c =
    let p = err_from_is_err_and c.from_residual.result c.from_residual.ensures.1 in
    rw (p.1, p.2) (tested_refused c.in_err-image_refusal.ensures (refusal_some _))

pub listing_len-n-requires : goal.listing_len-n-requires
listing_len-n-requires c = session_valid (tested_session c.in_ok-image_refusal.ensures refl)

pub returns-then-n-out : goal.returns-then-n-out
returns-then-n-out c = no_room _ _ _ (tested_session c.in_ok-image_refusal.ensures refl) c.listing_len-n.ensures c.if-n-out.true

pub put_listing-requires : goal.put_listing-requires
put_listing-requires c = (session_valid (tested_session c.in_ok-image_refusal.ensures refl), omega (arith, c.listing_len-n.ensures.text, c.if-n-out.false))

pub returns : goal.returns
returns c = is_listed _ _ _ (tested_session c.in_ok-image_refusal.ensures refl) c.listing_len-n.ensures _ _ c.if-n-out.false c.put_listing.ensures
