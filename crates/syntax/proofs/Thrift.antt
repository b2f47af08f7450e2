-- A tree has at most as many nodes as there are tokens.
use Rattle.std.proofs.Common.{ℕ, ◌+◌, ◌≤◌, List, [], ◌∷◌, length, Some, None, Option, arith, rules}
use Rattle.lexer.specs.declared.Token.{Token}
use Rattle.syntax.specs.declared.node.Own.{Own}
use Rattle.syntax.specs.declared.parser.Nest.{Nest}
use Rattle.syntax.specs.declared.grammar.Role.{Role}
use Rattle.syntax.specs.declared.grammar.Role.TheVariants as A
use Rattle.syntax.specs.Trees.{Forest, sizes}
use Rattle.syntax.specs.Derivations as D
use Rattle.syntax.specs.Derivations.{Frame, frame, Derives, nested, marked, made}
use Rattle.syntax.specs.Reaching as G
use Rattle.syntax.specs.Reaching.{Reach}
use Rattle.syntax.specs.States.{owed}
use Rattle.syntax.proofs.Sizes.{sizes_join}

-- the nodes that are made and begun in some frames
abbrev pub weight : List Frame → ℕ
weight [] = 0
weight (frame is q n o f ∷ s) = sizes f + owed o + weight s

-- a token begins at most one node
marked_owed : (role : Role) (t : Token) (n : Nest) (o : Option Own) → owed (marked role t n o) ≤ owed o + 1
marked_owed A.Plain t n o = omega arith
marked_owed (A.Own k) t n o = omega arith
marked_owed A.Literal t n o = search rules
marked_owed A.Break t n o = omega arith
marked_owed A.Noted t n None = omega arith
marked_owed A.Noted t n (Some own) = omega arith

-- a node that is made was begun
made_owed : (o : Option Own) (f : Forest) → sizes (made o f) ≤ sizes f + owed o
made_owed None f = omega arith
made_owed (Some own) f = omega arith

-- a derivation makes no more nodes than the frames hold and there are tokens
pub thrift : {ts : List Token} {s : List Frame} {f : Forest} {ds : List ℕ} → Derives ts s f ds → sizes f ≤ weight s + length ts
thrift D.finish = omega arith
thrift (D.token {t = t} {l = l} {role = role} {n = n} {o = o} e d) = omega (arith, thrift d, marked_owed role t (nested l n) o)
thrift (D.unless e d) = thrift d
thrift (D.begin d) = omega (arith, thrift d)
thrift (D.make {o = o} {f = f} d) = omega (arith, thrift d, made_owed o f)
thrift (D.choose r e d) = thrift d
thrift (D.leave {e = e} {f = f} d) = omega (arith, thrift d, sizes_join f e)

-- and so does a path
pub thrift_reach : {ts us : List Token} {s u : List Frame} → Reach ts s us u → weight u + length us ≤ weight s + length ts
thrift_reach G.here = omega arith
thrift_reach (G.token {t = t} {l = l} {role = role} {n = n} {o = o} e w r) = omega (arith, thrift_reach r, marked_owed role t (nested l n) o)
thrift_reach (G.unless e r) = thrift_reach r
thrift_reach (G.begin r) = omega (arith, thrift_reach r)
thrift_reach (G.make {o = o} {f = f} r) = omega (arith, thrift_reach r, made_owed o f)
thrift_reach (G.choose e r) = thrift_reach r
thrift_reach (G.leave {e = e} {f = f} r) = omega (arith, thrift_reach r, sizes_join f e)
