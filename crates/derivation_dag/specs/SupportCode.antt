-- A list with a table as data, for a type whose model is both.
use Rattle.std.specs.Prelude.{List, refl}
use Rattle.std.specs.Coded.{Coded, code_by, coded_list, coded×}
use Rattle.closure_model.specs.Codes.{graph_code}
use Rattle.closure_model.specs.Derivations.{Support}
use Rattle.closure_model.specs.Tables.{Graph}
use Rattle.closure_model.specs.declared.derivation.Node.{Node}
use Rattle.closure_model.specs.contracts.derivation.Node as node

-- a list with a table as data
abbrev pub support_code : Coded Support
support_code =
    code_by (List Node × Graph) (coded× (coded_list node.the_row.coded) graph_code) (λ support. (support.nodes, support.table))
    (λ parts. record { nodes = parts.0; table = parts.1 }) (λ _. refl)
