-- Properties that are a name alone, or a name with an initializer (ECMA-262, 6th edition, 12.2.6).
use Rattle.std.proofs.Common.{◌≡◌, ℕ, Some, None}
use Rattle.es_text.specs.declared.Span.{Span}
use Rattle.es6_lexer.specs.declared.token.Punctuator.TheVariants as marks
use Rattle.es6_ast.specs.declared.tree.Identifier.{Identifier}
use Rattle.es6_ast.specs.declared.tree.Property.TheVariants as property
use Rattle.es6_ast.specs.declared.settings.Flags.{Flags}
use Rattle.es6_reading.specs.Parser.{Input, Inner, Took, next_mark}
use Rattle.es6_reading.specs.Expressions.{shorthand}
use Rattle.es6_cursor.specs.Takes.{TakesAs, place_of}
use Rattle.es6_cursor.proofs.Choices.{on_mark_at, off_mark_at}
use Rattle.es6_read_primaries.specs.Properties.{initialized}

module _ (i : Inner) (f : Flags) (at : ℕ) (n : Identifier) (c d : Input) where
  pub initialized_is : (equals : Span) → TakesAs (place_of (next_mark marks.Assign)) c (Some equals) d → shorthand i f at n c ≡ initialized i f at n equals d
  unfolding shorthand initialized
  initialized_is equals h = on_mark_at marks.Assign (λ span. initialized i f at n span) _ c d equals h

  pub alone : TakesAs (place_of (next_mark marks.Assign)) c None d → shorthand i f at n c ≡ Took (property.Shorthand n.span n.name) d
  unfolding shorthand initialized
  alone h = off_mark_at marks.Assign (λ span. initialized i f at n span) _ c d h
