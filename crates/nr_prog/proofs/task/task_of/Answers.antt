use Rattle.std.proofs.Common.{map, string_bytes, sym, ap, ◌∙◌, arith}
use Rattle.nr_prog.specs.Tasks.{task}
use Rattle.nr_prog.proofs.TaskLemmas.{none_asks, only_five, only_one, others_explain}
use Rattle.nr_prog.proofs.task.task_of.Goals as goal

pub returns-in-empty-clause-task : goal.returns-in-empty-clause-task
returns-in-empty-clause-task c = none_asks string_bytes c.args.args.now (omega arith)

pub returns-in-len1-clause-task : goal.returns-in-len1-clause-task
returns-in-len1-clause-task c =
    c.task_of_one.ensures.task
    ∙ ap (λ words. task (map string_bytes words))
    (sym (only_one c.args.args.now c.only-item.result (omega arith) c.only-item.is))

pub returns-in-len5-clause-task : goal.returns-in-len5-clause-task
returns-in-len5-clause-task c =
    c.load_asked.ensures.task
    ∙ ap (λ words. task (map string_bytes words))
    (sym
    (only_five c.args.args.now c.word-item.result c.seed-item.result c.readers-item.result c.keys-item.result
    c.gets-item.result (omega arith) c.word-item.is c.seed-item.is c.readers-item.is c.keys-item.is
    c.gets-item.is))

pub returns-in_default-clause-task : goal.returns-in_default-clause-task
returns-in_default-clause-task c =
    others_explain string_bytes c.args.args.now (omega arith) (omega arith) (omega arith)
