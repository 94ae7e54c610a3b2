-- What the code's search for the least point speaks of.
use Rattle.std.specs.Prelude.{Some, None, Option}
use Rattle.lptype.specs.Meaning.{Value, finite, top}
use Rattle.algebra.specs.Point.{Point}
use Rattle.limits.specs.Crossings.{crossings}
use Rattle.limits.specs.Least.{best}
use Rattle.vertices.specs.Vertices.{point}
use Rattle.vertices.specs.declared.vertex.Vertex.{Vertex}
use Rattle.plane.specs.declared.search.Search.{Search}

-- the point that was found, or top
abbrev pub found : Option Vertex → Value Point
found None = top
found (Some v) = finite (point v)

-- the least crossing of two limits that keeps them all
abbrev pub least_of : Search → Value Point
least_of s = best s.forms s.limits.items top (crossings s.limits.items)
