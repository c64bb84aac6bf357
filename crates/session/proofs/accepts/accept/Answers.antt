-- Each arm accepts the call of its kind, an unmap's the map that undoes; a key fits in a byte.
-- Assumes nothing.
use Rattle.calls.specs.Inner.Accepting.{named_in}
use Rattle.lines.specs.Inner.Answers.{call_form}
use Rattle.lines.specs.declared.call.CallKind.TheVariants.{Add, Map, Link, Unlink, Sum, Top, Pick, Near}
use Rattle.session.proofs.Accepting.{accepts, labelled_as, unmap_as}
use Rattle.session.proofs.accepts.accept.Goals as goal

pub returns-in-Add : goal.returns-in-Add
returns-in-Add c =
    accepts (call_form c.args.call.kind c.args.call.x c.args.call.y (named_in c.args.call.to)) _ c.args.image.now _ _ c.requires.1.form c.requires.0 (λ i. (c.slice_known-in-Add-1.given i).fits) (labelled_as c.args.call.kind Add c.args.call.x c.args.call.y (named_in c.args.call.to) c.in-Add.is _) c.accept_add.ensures

pub returns-in-Map : goal.returns-in-Map
returns-in-Map c =
    accepts (call_form c.args.call.kind c.args.call.x c.args.call.y (named_in c.args.call.to)) _ c.args.image.now _ _ c.requires.1.form c.requires.0 (λ i. (c.slice_known-in-Map-1.given i).fits) (labelled_as c.args.call.kind Map c.args.call.x c.args.call.y (named_in c.args.call.to) c.in-Map.is _) c.accept_operation.ensures

pub returns-in-Link : goal.returns-in-Link
returns-in-Link c =
    accepts (call_form c.args.call.kind c.args.call.x c.args.call.y (named_in c.args.call.to)) _ c.args.image.now _ _ c.requires.1.form c.requires.0 (λ i. (c.slice_known-in-Link-1.given i).fits) (labelled_as c.args.call.kind Link c.args.call.x c.args.call.y (named_in c.args.call.to) c.in-Link.is _) c.accept_operation-in-Link.ensures

pub returns-in-Unlink : goal.returns-in-Unlink
returns-in-Unlink c =
    accepts (call_form c.args.call.kind c.args.call.x c.args.call.y (named_in c.args.call.to)) _ c.args.image.now _ _ c.requires.1.form c.requires.0 (λ i. (c.slice_known-in-Unlink-1.given i).fits) (labelled_as c.args.call.kind Unlink c.args.call.x c.args.call.y (named_in c.args.call.to) c.in-Unlink.is _) c.accept_operation-in-Unlink.ensures

pub returns-in-Sum : goal.returns-in-Sum
returns-in-Sum c =
    accepts (call_form c.args.call.kind c.args.call.x c.args.call.y (named_in c.args.call.to)) _ c.args.image.now _ _ c.requires.1.form c.requires.0 (λ i. (c.slice_known-in-Sum-1.given i).fits) (labelled_as c.args.call.kind Sum c.args.call.x c.args.call.y (named_in c.args.call.to) c.in-Sum.is _) c.accept_operation-in-Sum.ensures

pub returns-in-Top : goal.returns-in-Top
returns-in-Top c =
    accepts (call_form c.args.call.kind c.args.call.x c.args.call.y (named_in c.args.call.to)) _ c.args.image.now _ _ c.requires.1.form c.requires.0 (λ i. (c.slice_known-in-Top-1.given i).fits) (labelled_as c.args.call.kind Top c.args.call.x c.args.call.y (named_in c.args.call.to) c.in-Top.is _) c.accept_operation-in-Top.ensures

pub returns-in-Pick : goal.returns-in-Pick
returns-in-Pick c =
    accepts (call_form c.args.call.kind c.args.call.x c.args.call.y (named_in c.args.call.to)) _ c.args.image.now _ _ c.requires.1.form c.requires.0 (λ i. (c.slice_known-in-Pick-1.given i).fits) (labelled_as c.args.call.kind Pick c.args.call.x c.args.call.y (named_in c.args.call.to) c.in-Pick.is _) c.accept_operation-in-Pick.ensures

pub returns-in-Near : goal.returns-in-Near
returns-in-Near c =
    accepts (call_form c.args.call.kind c.args.call.x c.args.call.y (named_in c.args.call.to)) _ c.args.image.now _ _ c.requires.1.form c.requires.0 (λ i. (c.slice_known-in-Near-1.given i).fits) (labelled_as c.args.call.kind Near c.args.call.x c.args.call.y (named_in c.args.call.to) c.in-Near.is _) c.accept_operation-in-Near.ensures

pub returns-in-Unmap : goal.returns-in-Unmap
returns-in-Unmap c =
    accepts (call_form c.args.call.kind c.args.call.x c.args.call.y (named_in c.args.call.to)) _ c.args.image.now _ _ c.requires.1.form c.requires.0 (λ i. (c.slice_known-in-Unmap-1.given i).fits)
    (unmap_as c.args.call.kind c.args.call.x c.args.call.y (named_in c.args.call.to) c.in-Unmap.is _ c.inverse.ensures _)
    c.accept_operation-in-Unmap.ensures
