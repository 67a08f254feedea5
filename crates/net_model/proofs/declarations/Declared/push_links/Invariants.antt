use Rattle.std.proofs.Common.{◌≡◌, ◌++◌, take}
use Rattle.net_model.proofs.declarations.Declared.push_links.Given as goal

abbrev pub invariant-loop-link : goal.invariant-loop-link
invariant-loop-link l = l.self ≡ record l.fn.self { links = l.fn.self.links ++ take l.link-index l.links }
