-- What contracts see of an order.
use Rattle.mdoc_program.specs.Order as order
use Rattle.mdoc_program.specs.declared.order.Order.{Order}

abbrev pub order_seen : Order → order.Order
order_seen found = record { command = found.command; words = found.words.now }
