use Rattle.checker.proofs.Worked.{type_differs_answer, own_value_answer, param_as_func_answer, param_again_answer, nothing_new_answer, endless_answer, endless_break_answer}
use Rattle.checker.proofs.examples_stand.Goals as goal

pub returns : goal.returns
returns c = record { type_differs_is = type_differs_answer; own_value_is = own_value_answer; param_as_func_is = param_as_func_answer; param_again_is = param_again_answer; nothing_new_is = nothing_new_answer; endless_is = endless_answer; endless_break_is = endless_break_answer }
