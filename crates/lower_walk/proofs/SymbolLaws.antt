-- When an expression in brackets may be `Symbol.iterator`.
use Rattle.std.proofs.Common.{◌≡◌, refl, arith, false, codes, List, [], ◌∷◌, length, map}
use Rattle.es6_ast.specs.declared.tree.Link.{Link}
use Rattle.module_lowering.specs.Expressions.{are_iterator, is_word}
use Rattle.module_lowering.specs.Nodes.{Linked}

pub no_iterator : (f : Link → Linked) (ls : List Link) → length ls ≡ 0 → are_iterator (map f ls) ≡ false
no_iterator f [] h = refl
no_iterator f (l ∷ ls) h = absurd (omega (arith, h))

pub iterator_alone : (f : Link → Linked) (l : Link) (ls : List Link) → length ls ≡ 0 → are_iterator (map f (l ∷ ls)) ≡ is_word (codes "iterator") (f l).member
iterator_alone f l [] h = refl
iterator_alone f l (m ∷ ls) h = absurd (omega (arith, h))

pub iterator_among : (f : Link → Linked) (l : Link) (ls : List Link) → (length ls ≡ 0 → ⊥) → are_iterator (map f (l ∷ ls)) ≡ false
iterator_among f l [] h = absurd (h refl)
iterator_among f l (m ∷ ls) h = refl
