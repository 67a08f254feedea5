use Rattle.closure_model.specs.Keys.{IsKey, all_keys}
use Rattle.closure_model.proofs.Lists.{each-contained}
use Rattle.closure_model.proofs.KeyLists.{all_keys_rise, strictly_sorted, all_keys_sound, all_keys_whole}
use Rattle.closure_model.proofs.table_laws.law_all_keys_are_listed.Goals as goal

pub returns : goal.returns
returns c = λ shape. (strictly_sorted (all_keys shape) (all_keys_rise shape), λ key. (λ inside. each-contained (IsKey shape) (all_keys shape) key (all_keys_sound shape) inside, all_keys_whole shape key))
