use Rattle.judge_command.proofs.laws.law_judge_is_lawful.Goals as goal

pub returns-clause-causes : goal.returns-clause-causes
returns-clause-causes c = λ query. c.ends_by_its_causes.ensures query (c.keeps_its_promise.ensures query)
