use Rattle.std.proofs.Common.{length}
use Rattle.vertices.proofs.vertex.Vertex.+no_more.Given as goal

abbrev pub decreases-no_more : goal.decreases-no_more
decreases-no_more l = length l.forms.now
