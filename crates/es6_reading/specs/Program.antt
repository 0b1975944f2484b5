-- The modules of a program with classes, generators, patterns and templates, by their tokens.
use Rattle.std.specs.Prelude.{true, false, List, [], ◌∷◌, codes}
use Rattle.es6_lexer.specs.declared.token.Punctuator.TheVariants as marks
use Rattle.es6_reading.specs.Examples.{Piece, w, p, n, text, stretch, line, IsRead}

-- what prints
abbrev pub main_module : List Piece
main_module =
    w (codes "import") ∷ p marks.LeftBrace ∷ w (codes "print") ∷ p marks.RightBrace ∷ w (codes "from") ∷ text (codes "host") ∷ p marks.Semicolon
    ∷ line (w (codes "import")) ∷ w (codes "Queue") ∷ p marks.Comma ∷ p marks.LeftBrace ∷ w (codes "total") ∷ p marks.RightBrace ∷ w (codes "from")
    ∷ text (codes "./queue.js") ∷ p marks.Semicolon ∷ line (w (codes "import")) ∷ p marks.LeftBrace ∷ w (codes "walk") ∷ p marks.Comma ∷ w (codes "insert")
    ∷ p marks.RightBrace ∷ w (codes "from") ∷ text (codes "./tree.js") ∷ p marks.Semicolon ∷ line (w (codes "import")) ∷ p marks.Star ∷ w (codes "as")
    ∷ w (codes "text") ∷ w (codes "from") ∷ text (codes "./text.js") ∷ p marks.Semicolon ∷ line (w (codes "const")) ∷ w (codes "q") ∷ p marks.Assign
    ∷ w (codes "new") ∷ w (codes "Queue") ∷ p marks.LeftParenthesis ∷ n 3 ∷ p marks.RightParenthesis ∷ p marks.Semicolon ∷ line (w (codes "let")) ∷ w (codes "root")
    ∷ p marks.Assign ∷ w (codes "null") ∷ p marks.Semicolon ∷ line (w (codes "for")) ∷ p marks.LeftParenthesis ∷ w (codes "const") ∷ w (codes "k") ∷ w (codes "of")
    ∷ p marks.LeftBracket ∷ n 5 ∷ p marks.Comma ∷ n 2 ∷ p marks.Comma ∷ n 8 ∷ p marks.Comma ∷ n 1 ∷ p marks.Comma ∷ n 9 ∷ p marks.RightBracket
    ∷ p marks.RightParenthesis ∷ p marks.LeftBrace ∷ line (w (codes "root")) ∷ p marks.Assign ∷ w (codes "insert") ∷ p marks.LeftParenthesis ∷ w (codes "root")
    ∷ p marks.Comma ∷ w (codes "k") ∷ p marks.RightParenthesis ∷ p marks.Semicolon ∷ line (w (codes "q")) ∷ p marks.Dot ∷ w (codes "put") ∷ p marks.LeftParenthesis
    ∷ w (codes "k") ∷ p marks.RightParenthesis ∷ p marks.Semicolon ∷ line (p marks.RightBrace) ∷ line (w (codes "print")) ∷ p marks.LeftParenthesis
    ∷ w (codes "text") ∷ p marks.Dot ∷ w (codes "list") ∷ p marks.LeftParenthesis ∷ p marks.LeftBracket ∷ p marks.Ellipsis ∷ w (codes "q") ∷ p marks.RightBracket
    ∷ p marks.RightParenthesis ∷ p marks.Comma ∷ w (codes "total") ∷ p marks.RightParenthesis ∷ p marks.Semicolon ∷ line (w (codes "for")) ∷ p marks.LeftParenthesis
    ∷ w (codes "const") ∷ p marks.LeftBrace ∷ w (codes "key") ∷ p marks.Comma ∷ w (codes "depth") ∷ p marks.RightBrace ∷ w (codes "of") ∷ w (codes "walk")
    ∷ p marks.LeftParenthesis ∷ w (codes "root") ∷ p marks.RightParenthesis ∷ p marks.RightParenthesis ∷ p marks.LeftBrace ∷ line (w (codes "if"))
    ∷ p marks.LeftParenthesis ∷ w (codes "key") ∷ p marks.GreaterThan ∷ n 8 ∷ p marks.RightParenthesis ∷ w (codes "break") ∷ p marks.Semicolon
    ∷ line (w (codes "print")) ∷ p marks.LeftParenthesis ∷ stretch (codes "") true false ∷ w (codes "text") ∷ p marks.Dot ∷ w (codes "pad")
    ∷ p marks.LeftParenthesis ∷ w (codes "depth") ∷ p marks.RightParenthesis ∷ stretch (codes "") false false ∷ w (codes "key") ∷ stretch (codes "") false true
    ∷ p marks.RightParenthesis ∷ p marks.Semicolon ∷ line (p marks.RightBrace) ∷ line (w (codes "print")) ∷ p marks.LeftParenthesis ∷ w (codes "q") ∷ p marks.Dot
    ∷ w (codes "size") ∷ p marks.Comma ∷ w (codes "text") ∷ p marks.Dot ∷ w (codes "title") ∷ p marks.RightParenthesis ∷ p marks.Semicolon ∷ []

-- a queue with a limit
abbrev pub queue_module : List Piece
queue_module =
    w (codes "export") ∷ w (codes "let") ∷ w (codes "total") ∷ p marks.Assign ∷ n 0 ∷ p marks.Semicolon ∷ line (w (codes "class")) ∷ w (codes "Base")
    ∷ p marks.LeftBrace ∷ line (w (codes "constructor")) ∷ p marks.LeftParenthesis ∷ w (codes "limit") ∷ p marks.Assign ∷ n 2 ∷ p marks.RightParenthesis
    ∷ p marks.LeftBrace ∷ w (codes "this") ∷ p marks.Dot ∷ w (codes "limit") ∷ p marks.Assign ∷ w (codes "limit") ∷ p marks.Semicolon ∷ w (codes "this")
    ∷ p marks.Dot ∷ w (codes "items") ∷ p marks.Assign ∷ p marks.LeftBracket ∷ p marks.RightBracket ∷ p marks.Semicolon ∷ p marks.RightBrace
    ∷ line (w (codes "get")) ∷ w (codes "size") ∷ p marks.LeftParenthesis ∷ p marks.RightParenthesis ∷ p marks.LeftBrace ∷ w (codes "return") ∷ w (codes "this")
    ∷ p marks.Dot ∷ w (codes "items") ∷ p marks.Dot ∷ w (codes "length") ∷ p marks.Semicolon ∷ p marks.RightBrace ∷ line (p marks.RightBrace)
    ∷ line (w (codes "export")) ∷ w (codes "default") ∷ w (codes "class") ∷ w (codes "Queue") ∷ w (codes "extends") ∷ w (codes "Base") ∷ p marks.LeftBrace
    ∷ line (w (codes "constructor")) ∷ p marks.LeftParenthesis ∷ p marks.Ellipsis ∷ w (codes "rest") ∷ p marks.RightParenthesis ∷ p marks.LeftBrace
    ∷ w (codes "super") ∷ p marks.LeftParenthesis ∷ p marks.Ellipsis ∷ w (codes "rest") ∷ p marks.RightParenthesis ∷ p marks.Semicolon ∷ p marks.RightBrace
    ∷ line (w (codes "put")) ∷ p marks.LeftParenthesis ∷ w (codes "k") ∷ p marks.RightParenthesis ∷ p marks.LeftBrace ∷ line (w (codes "total"))
    ∷ p marks.PlusAssign ∷ w (codes "k") ∷ p marks.Semicolon ∷ line (w (codes "if")) ∷ p marks.LeftParenthesis ∷ w (codes "this") ∷ p marks.Dot ∷ w (codes "size")
    ∷ p marks.StrictEquals ∷ w (codes "this") ∷ p marks.Dot ∷ w (codes "limit") ∷ p marks.RightParenthesis ∷ w (codes "this") ∷ p marks.Dot ∷ w (codes "take")
    ∷ p marks.LeftParenthesis ∷ p marks.RightParenthesis ∷ p marks.Semicolon ∷ line (w (codes "this")) ∷ p marks.Dot ∷ w (codes "items") ∷ p marks.Dot
    ∷ w (codes "push") ∷ p marks.LeftParenthesis ∷ w (codes "k") ∷ p marks.RightParenthesis ∷ p marks.Semicolon ∷ line (p marks.RightBrace)
    ∷ line (w (codes "take")) ∷ p marks.LeftParenthesis ∷ p marks.RightParenthesis ∷ p marks.LeftBrace ∷ line (w (codes "const")) ∷ p marks.LeftBracket
    ∷ w (codes "first") ∷ p marks.Comma ∷ p marks.Ellipsis ∷ w (codes "others") ∷ p marks.RightBracket ∷ p marks.Assign ∷ w (codes "this") ∷ p marks.Dot
    ∷ w (codes "items") ∷ p marks.Semicolon ∷ line (w (codes "this")) ∷ p marks.Dot ∷ w (codes "items") ∷ p marks.Assign ∷ w (codes "others") ∷ p marks.Semicolon
    ∷ line (w (codes "return")) ∷ w (codes "first") ∷ p marks.Semicolon ∷ line (p marks.RightBrace) ∷ line (p marks.Star) ∷ p marks.LeftBracket ∷ w (codes "Symbol")
    ∷ p marks.Dot ∷ w (codes "iterator") ∷ p marks.RightBracket ∷ p marks.LeftParenthesis ∷ p marks.RightParenthesis ∷ p marks.LeftBrace ∷ w (codes "yield")
    ∷ p marks.Star ∷ w (codes "this") ∷ p marks.Dot ∷ w (codes "items") ∷ p marks.Semicolon ∷ p marks.RightBrace ∷ line (p marks.RightBrace) ∷ []

-- a search tree
abbrev pub tree_module : List Piece
tree_module =
    w (codes "export") ∷ w (codes "function") ∷ w (codes "insert") ∷ p marks.LeftParenthesis ∷ w (codes "node") ∷ p marks.Comma ∷ w (codes "key")
    ∷ p marks.RightParenthesis ∷ p marks.LeftBrace ∷ line (w (codes "if")) ∷ p marks.LeftParenthesis ∷ w (codes "node") ∷ p marks.StrictEquals ∷ w (codes "null")
    ∷ p marks.RightParenthesis ∷ w (codes "return") ∷ p marks.LeftBrace ∷ w (codes "key") ∷ p marks.Comma ∷ w (codes "left") ∷ p marks.Colon ∷ w (codes "null")
    ∷ p marks.Comma ∷ w (codes "right") ∷ p marks.Colon ∷ w (codes "null") ∷ p marks.RightBrace ∷ p marks.Semicolon ∷ line (w (codes "const")) ∷ p marks.LeftBrace
    ∷ w (codes "left") ∷ p marks.Comma ∷ w (codes "right") ∷ p marks.RightBrace ∷ p marks.Assign ∷ w (codes "node") ∷ p marks.Semicolon ∷ line (w (codes "return"))
    ∷ w (codes "key") ∷ p marks.LessThan ∷ w (codes "node") ∷ p marks.Dot ∷ w (codes "key") ∷ line (p marks.Question) ∷ p marks.LeftBrace ∷ w (codes "key")
    ∷ p marks.Colon ∷ w (codes "node") ∷ p marks.Dot ∷ w (codes "key") ∷ p marks.Comma ∷ w (codes "left") ∷ p marks.Colon ∷ w (codes "insert")
    ∷ p marks.LeftParenthesis ∷ w (codes "left") ∷ p marks.Comma ∷ w (codes "key") ∷ p marks.RightParenthesis ∷ p marks.Comma ∷ w (codes "right")
    ∷ p marks.RightBrace ∷ line (p marks.Colon) ∷ p marks.LeftBrace ∷ w (codes "key") ∷ p marks.Colon ∷ w (codes "node") ∷ p marks.Dot ∷ w (codes "key")
    ∷ p marks.Comma ∷ w (codes "left") ∷ p marks.Comma ∷ w (codes "right") ∷ p marks.Colon ∷ w (codes "insert") ∷ p marks.LeftParenthesis ∷ w (codes "right")
    ∷ p marks.Comma ∷ w (codes "key") ∷ p marks.RightParenthesis ∷ p marks.RightBrace ∷ p marks.Semicolon ∷ line (p marks.RightBrace) ∷ line (w (codes "export"))
    ∷ w (codes "function") ∷ p marks.Star ∷ w (codes "walk") ∷ p marks.LeftParenthesis ∷ w (codes "node") ∷ p marks.Comma ∷ w (codes "depth") ∷ p marks.Assign ∷ n 0
    ∷ p marks.RightParenthesis ∷ p marks.LeftBrace ∷ line (w (codes "if")) ∷ p marks.LeftParenthesis ∷ w (codes "node") ∷ p marks.StrictEquals ∷ w (codes "null")
    ∷ p marks.RightParenthesis ∷ w (codes "return") ∷ p marks.Semicolon ∷ line (w (codes "yield")) ∷ p marks.Star ∷ w (codes "walk") ∷ p marks.LeftParenthesis
    ∷ w (codes "node") ∷ p marks.Dot ∷ w (codes "left") ∷ p marks.Comma ∷ w (codes "depth") ∷ p marks.Plus ∷ n 1 ∷ p marks.RightParenthesis ∷ p marks.Semicolon
    ∷ line (w (codes "yield")) ∷ p marks.LeftBrace ∷ w (codes "key") ∷ p marks.Colon ∷ w (codes "node") ∷ p marks.Dot ∷ w (codes "key") ∷ p marks.Comma
    ∷ w (codes "depth") ∷ p marks.RightBrace ∷ p marks.Semicolon ∷ line (w (codes "yield")) ∷ p marks.Star ∷ w (codes "walk") ∷ p marks.LeftParenthesis
    ∷ w (codes "node") ∷ p marks.Dot ∷ w (codes "right") ∷ p marks.Comma ∷ w (codes "depth") ∷ p marks.Plus ∷ n 1 ∷ p marks.RightParenthesis ∷ p marks.Semicolon
    ∷ line (p marks.RightBrace) ∷ []

-- texts
abbrev pub text_module : List Piece
text_module =
    w (codes "export") ∷ w (codes "const") ∷ w (codes "title") ∷ p marks.Assign ∷ text (codes "queue tree") ∷ p marks.Semicolon ∷ line (w (codes "export"))
    ∷ w (codes "function") ∷ w (codes "pad") ∷ p marks.LeftParenthesis ∷ w (codes "n") ∷ p marks.Comma ∷ w (codes "fill") ∷ p marks.Assign ∷ text (codes "-")
    ∷ p marks.RightParenthesis ∷ p marks.LeftBrace ∷ line (w (codes "let")) ∷ w (codes "s") ∷ p marks.Assign ∷ text (codes "") ∷ p marks.Semicolon
    ∷ line (w (codes "while")) ∷ p marks.LeftParenthesis ∷ w (codes "n") ∷ p marks.MinusMinus ∷ p marks.GreaterThan ∷ n 0 ∷ p marks.RightParenthesis ∷ w (codes "s")
    ∷ p marks.PlusAssign ∷ w (codes "fill") ∷ p marks.Semicolon ∷ line (w (codes "return")) ∷ w (codes "s") ∷ p marks.Semicolon ∷ line (p marks.RightBrace)
    ∷ line (w (codes "export")) ∷ w (codes "const") ∷ w (codes "list") ∷ p marks.Assign ∷ w (codes "items") ∷ p marks.Arrow ∷ stretch (codes "[") true false
    ∷ w (codes "items") ∷ p marks.Dot ∷ w (codes "join") ∷ p marks.LeftParenthesis ∷ text (codes " ") ∷ p marks.RightParenthesis ∷ stretch (codes "]") false true
    ∷ p marks.Semicolon ∷ []

pub record IsProgramRead : Type 0 where
  pub main : IsRead main_module
  pub queue : IsRead queue_module
  pub tree : IsRead tree_module
  pub texts : IsRead text_module
