-- A token of the code as contracts see it.
use Rattle.spec_reader.specs.declared.token.Token.{Token}
use Rattle.spec_reader.specs.declared.token.Token.TheVariants as token
use Rattle.spec_reader.specs.Tokens as plain_token

abbrev pub plain : Token → plain_token.Token
plain (token.Mark sign) = plain_token.Mark sign
plain (token.Reserved keyword) = plain_token.Reserved keyword
plain (token.Name text) = plain_token.Name text.now
plain (token.Number digits) = plain_token.Number digits.now
plain (token.Text text) = plain_token.Text text.now
plain token.Stray = plain_token.Stray
