-- Each arm is the step of its kind.
-- Assumes nothing.
use Rattle.session.proofs.Taking.{takes}
use Rattle.session.proofs.anystep.take.Goals as goal

pub returns-in-Admit : goal.returns-in-Admit
returns-in-Admit c =
    takes c.args.w _ c.in-Admit.is c.args.image.now _ _ c.requires (λ i. (c.slice_known-in-Admit-1.given i).fits) c.admit.ensures

pub returns-in-Realise : goal.returns-in-Realise
returns-in-Realise c =
    takes c.args.w _ c.in-Realise.is c.args.image.now _ _ c.requires (λ i. (c.slice_known-in-Realise-1.given i).fits) c.realise.ensures

pub returns-in-Move : goal.returns-in-Move
returns-in-Move c =
    takes c.args.w _ c.in-Move.is c.args.image.now _ _ c.requires (λ i. (c.slice_known-in-Move-1.given i).fits) c.move_on.ensures

pub returns-in-Finish : goal.returns-in-Finish
returns-in-Finish c =
    takes c.args.w _ c.in-Finish.is c.args.image.now _ _ c.requires (λ i. (c.slice_known-in-Finish-1.given i).fits) c.finish.ensures

pub returns-in-Join : goal.returns-in-Join
returns-in-Join c =
    takes c.args.w _ c.in-Join.is c.args.image.now _ _ c.requires (λ i. (c.slice_known-in-Join-1.given i).fits) c.join.ensures

pub returns-in-Split : goal.returns-in-Split
returns-in-Split c =
    takes c.args.w _ c.in-Split.is c.args.image.now _ _ c.requires (λ i. (c.slice_known-in-Split-1.given i).fits) c.split.ensures

pub returns-in-Swap : goal.returns-in-Swap
returns-in-Swap c =
    takes c.args.w _ c.in-Swap.is c.args.image.now _ _ c.requires (λ i. (c.slice_known-in-Swap-1.given i).fits) c.swap.ensures

pub returns-in-Fuse : goal.returns-in-Fuse
returns-in-Fuse c =
    takes c.args.w _ c.in-Fuse.is c.args.image.now _ _ c.requires (λ i. (c.slice_known-in-Fuse-1.given i).fits) c.fuse.ensures
