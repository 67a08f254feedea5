use Rattle.closure_model.proofs.LawProofs.{law_labelled_rest_on_links}
use Rattle.closure_model.proofs.laws.law_labelled_rest_on_links.Goals as goal

pub returns : goal.returns
returns c = law_labelled_rest_on_links
