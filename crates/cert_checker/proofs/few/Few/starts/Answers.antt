use Rattle.cert_checker.proofs.FewLemmas.{starts_words, starts_are}
use Rattle.cert_checker.proofs.few.Few.starts.Goals as goal

pub returns-clause-words : goal.returns-clause-words
returns-clause-words c = starts_words c.self.inside.points c.self.inside.starts.items c.args.self.now c.self.view_is c.self.invariant c.as_slice.result.now c.as_slice.ensures.value

pub returns-clause-sound : goal.returns-clause-sound
returns-clause-sound c = starts_are c.self.inside.points c.self.inside.starts.items c.args.self.now c.self.view_is c.self.invariant c.as_slice.result.now c.as_slice.ensures.value
