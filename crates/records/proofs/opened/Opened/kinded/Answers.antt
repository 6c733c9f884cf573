use Rattle.records.proofs.Views.{kind_out, kind_unlisted, kind_top, said_out, said_unlisted, says_by}
use Rattle.records.proofs.opened.Opened.kinded.Goals as goal

pub returns-in_err-rec : goal.returns-in_err-rec
returns-in_err-rec c =
    let l = c.in_err-rec.ensures in
    rw c.from_residual.ensures (kind_out c.args.self.file.now c.args.r l, said_out c.args.self.file.now c.args.r l)

pub returns-in_err-kind : goal.returns-in_err-kind
returns-in_err-kind c =
    let a = c.in_ok-rec.ensures in
    let k = c.in_err-kind.ensures in
    rw c.from_residual-in_err-kind.ensures (
      kind_unlisted c.args.self.file.now c.args.r c.in_ok-rec.rec a.0 a.1 k,
      said_unlisted c.args.self.file.now c.args.self.t c.args.r c.in_ok-rec.rec c.args.self.text a.0 a.1 k,
    )

pub returns : goal.returns
returns c =
    let a = c.in_ok-rec.ensures in
    let k = c.in_ok-kind.ensures in
    record {
      kinds = kind_top c.args.self.file.now c.args.self.n c.args.r c.in_ok-rec.rec c.in_ok-kind.kind c.args.self.records a.0 a.1 k;
      says = says_by c.args.self.file.now c.args.self.t c.args.r c.in_ok-rec.rec c.in_ok-kind.kind c.args.self.text a.0 a.1 k;
    }
