use Rattle.records.proofs.Passing.{found, fields_of}
use Rattle.script.specs.declared.script.Script.{Script}
use Rattle.script.specs.Verdict.{Readable}
use Rattle.script.specs.Scripts.{header_of}
use Rattle.script.proofs.Walks.{past, never, known}
use Rattle.script.proofs.script.Script.kinded.Goals as goal

readable : (s : Script) → Readable s.over.file.now (header_of s)
readable s = record {
  heads = record { records_are = s.over.records; text_is = s.over.text; some = s.over.some; few = s.over.few; brief = s.over.brief; fills = s.over.fills };
  kept = record { links = s.links; once = s.once; shallows = s.depth; kinds = s.kinds; children = s.children; texts = s.texts };
}

pub returns-in_err-place : goal.returns-in_err-place
returns-in_err-place c = rw c.from_residual.ensures (past c.args.self.over.file.now c.args.self.over.n c.args.r c.args.self.over.records c.in_err-place.ensures)

pub unreachable-requires : goal.unreachable-requires
unreachable-requires c =
    let s = c.args.self in
    let p = c.in_ok-place.field-0 in
    let a = c.in_ok-place.ensures in
    let h = found s.over c.args.r p a.0 a.1 in
    let e = fields_of s.over c.args.r p c.fields-rec.result a.0 a.1 c.fields-rec.ensures in
    never s.over.file.now (header_of s) (readable s) c.args.r h.from h.within c.fields-rec.result e c.in_default.ensures

pub returns : goal.returns
returns c =
    let s = c.args.self in
    let p = c.in_ok-place.field-0 in
    let a = c.in_ok-place.ensures in
    let h = found s.over c.args.r p a.0 a.1 in
    let e = fields_of s.over c.args.r p c.fields-rec.result a.0 a.1 c.fields-rec.ensures in
    known s.over.file.now (header_of s) (readable s) c.args.r h.from h.within s.over.n s.over.t c.fields-rec.result c.in-Some.kind s.over.records s.over.text e c.in-Some.ensures
