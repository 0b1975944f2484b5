-- Parts of properties of object literals (ECMA-262, 6th edition, 12.2.6).
use Rattle.std.specs.Prelude.{ℕ, Bool}
use Rattle.es_text.specs.declared.Span.{Span}
use Rattle.es6_ast.specs.declared.tree.Identifier.{Identifier}
use Rattle.es6_ast.specs.declared.tree.Property.{Property}
use Rattle.es6_ast.specs.declared.tree.Property.TheVariants as property
use Rattle.es6_ast.specs.declared.settings.Flags.{Flags}
use Rattle.es6_ast.specs.Grammar.{with_in}
use Rattle.es6_reading.specs.Parser.{Inner, Parser, ◌>>=◌, returns, made}
use Rattle.es6_reading.specs.Parts.{accessor, generator_method, key}
use Rattle.es6_reading.specs.Expressions.{after_key}

-- the initializer of a name, after the `=` that stands there
unfoldable pub initialized : Inner → Flags → ℕ → Identifier → Span → Parser Property
initialized i f at n equals = do
  x ← i.assignment (with_in f)
  made at (λ span. property.Initialized span n equals x.value)

-- an accessor, after its word (14.3)
unfoldable pub named_accessor : Inner → Flags → ℕ → Bool → Parser Property
named_accessor i f at setter = do
  m ← accessor i f at setter
  returns (property.Defined m)

-- a generator method, after its `*` (14.4)
unfoldable pub generator_property : Inner → Flags → ℕ → Parser Property
generator_property i f at = do
  m ← generator_method i f at
  returns (property.Defined m)

-- a property that begins with no name that may stand alone
unfoldable pub computed_property : Inner → Flags → ℕ → Parser Property
computed_property i f at = do
  k ← key i f
  after_key i f at k
