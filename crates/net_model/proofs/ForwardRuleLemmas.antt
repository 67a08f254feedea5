-- What follows forward from edges follows from them.
use Rattle.std.proofs.Common.{List}
use Rattle.net_model.specs.Network.{Plan}
use Rattle.net_model.specs.Rules.{Follows}
use Rattle.net_model.specs.ForwardRules.{FollowsForward, by_bound, by_link, by_no_case, by_upper_case, by_lower_case, by_cross_case, by_removal}
use Rattle.net_model.specs.declared.part.Edge.{Edge}

pub forward_follows : (net : Plan) (edges : List Edge) (edge : Edge) → FollowsForward net edges edge → Follows net edges edge
forward_follows net edges edge (by_bound place bound declared is) = Follows.by_bound place bound declared is
forward_follows net edges edge (by_link name link declared is) = Follows.by_link name link declared is
forward_follows net edges edge (by_no_case first second one two not_negative is) = Follows.by_no_case first second one two is
forward_follows net edges edge (by_upper_case first second one two not_negative is) = Follows.by_upper_case first second one two is
forward_follows net edges edge (by_lower_case name second one is) = Follows.by_lower_case name second one is
forward_follows net edges edge (by_cross_case name second one is) = Follows.by_cross_case name second one is
forward_follows net edges edge (by_removal premise one is) = Follows.by_removal premise one is
