use Rattle.std.proofs.Common.{◌≡◌, ◌∙◌, sym}
use Rattle.records.specs.Bytes.{rec_at}
use Rattle.records.proofs.Passing.{found, fields_of}
use Rattle.records.proofs.Views.{linked_out, linked_is, linked_rec, whole_true}
use Rattle.records.proofs.opened.Opened.linked.Goals as goal

pub returns-in_err-place : goal.returns-in_err-place
returns-in_err-place c =
    let s = c.args.self in
    rw c.from_residual.ensures (linked_out s.file.now s.n c.args.r s.records c.in_err-place.ensures)

pub returns : goal.returns
returns c =
    let s = c.args.self in
    let r = c.args.r in
    let p = c.in_ok-place.field-0 in
    let a = c.in_ok-place.ensures in
    let rec = c.fields-rec.result in
    let w = whole_true s.file.now s.n s.t s.records s.text s.some s.few s.brief s.fills in
    let h = found s r p a.0 a.1 in
    let e : rec ≡ rec_at s.file.now r = fields_of s r p rec a.0 a.1 c.fields-rec.ensures in
    linked_rec s.file.now r rec _ _ (linked_is s.file.now s.n r rec s.records w h.from h.within e ∙ sym c.links_up.ensures) e c.then_some.ensures
