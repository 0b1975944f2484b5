-- How a statement ends.
use Rattle.es5_reading.specs.Parser.{Parser, returns, on, ending, inserts}

-- takes a semicolon, or nothing where one is inserted (ECMA-262, 5.1 edition, 7.9)
unfoldable pub ended : Parser (Unit {0})
ended = on ending (λ t. returns (tt {0})) inserts
