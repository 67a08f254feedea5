use Rattle.plan_format.proofs.ReadLemmas.{answer_every, answer_fault, answer_sizes}
use Rattle.plan_format.proofs.read.read_plan.Goals as goal

pub returns : goal.returns
returns c =
    let bytes = c.args.bytes.now in
    let answer = c.read_text.result in
    record {
      grammar = c.read_text.ensures.grammar;
      every = λ read says. answer_every bytes answer read c.read_text.ensures.grammar c.read_text.ensures.fault says;
      fault = c.read_text.ensures.fault;
      every_fault = λ fault first. answer_fault bytes answer fault c.read_text.ensures.grammar c.read_text.ensures.fault first;
      sizes = answer_sizes bytes answer c.read_text.ensures.grammar;
    }
