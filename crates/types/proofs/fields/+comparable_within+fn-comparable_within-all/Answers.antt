use Rattle.std.proofs.Common.{◌-◌, sym, ◌∙◌, arith, rules, tests}
use Rattle.std.proofs.lemmas.Iterator.{YieldsList-from_slice}
use Rattle.std.proofs.lemmas.Iterator.Search.{all_from_yields_List}
use Rattle.types.specs.declared.Entry.{Entry}
use Rattle.types.specs.Table.{comparable_by}
use Rattle.types.proofs.Compares.{of_struct, of_base}
use Rattle.types.proofs.fields.+comparable_within+fn-comparable_within-all.Goals as goal

pub returns-in_default : goal.returns-in_default
returns-in_default t c = c.is_base.ensures ∙ of_base c.args.table.now c.args.most c.args.t _ (omega arith) c.shape_of.ensures c.in_default.not-Struct

pub returns-in-Struct : goal.returns-in-Struct
returns-in-Struct t c =
    let each = λ (e : Entry). comparable_by c.args.table.now (c.args.most - 1) e.of in
    all_from_yields_List each _ _ _ c.all.ensures.ran (YieldsList-from_slice c.fields_of.result.now cc) (λ x b q k. search (rules, tests))
    ∙ sym (of_struct c.args.table.now c.args.most c.args.t _ (omega arith) c.shape_of.ensures c.in-Struct.n _ c.in-Struct.is c.fields_of.ensures)
