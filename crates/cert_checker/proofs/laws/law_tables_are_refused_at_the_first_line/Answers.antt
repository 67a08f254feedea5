use Rattle.cert_checker.proofs.TableRefusalLemmas.{refused_at_the_first_line}
use Rattle.cert_checker.proofs.laws.law_tables_are_refused_at_the_first_line.Goals as goal

pub returns : goal.returns
returns c = refused_at_the_first_line
