mod LinksOfOneKind
mod UnsettledLinks
